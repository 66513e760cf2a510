-- When a draft is current.
use Rattle.std.proofs.Common.{◌≡◌, ◌≢◌, ℕ, ◌+◌, ◌<◌, ◌≤◌, true, false, if◌then◌else◌, nat_lt, List, [], ◌∷◌, ◌++◌, length, Ok, Err, ◌⊎◌, inl, inr, ⊎_elim, refl, sym, ap, ◌∙◌, subst, arith}
use Rattle.std.proofs.lemmas.Bool.Decides.{nat_tests}
use Rattle.ledger.specs.declared.bill.Bill.{Bill}
use Rattle.ledger.specs.declared.bill.YearEnd.{YearEnd}
use Rattle.ledger.specs.declared.entry.Entry.{Entry}
use Rattle.group.proofs.Stepping.{and_then_ok, made_ok}
use Rattle.group.specs.Groups.{entry_result, opening_result}
use Rattle.group.specs.declared.group.Group.{Group}
use Rattle.group.specs.declared.group.Phase.{Phase}
use Rattle.group.specs.declared.group.Phase.TheVariants.{Blank, Open, YearEnd as AtYearEnd, Over}
use Rattle.group.specs.declared.refusal.BookRefusal.TheVariants as refused
use Rattle.group.specs.Books.{blank_check}
use Rattle.group.specs.Drafts.{Stamp, drawing_month, drawing_result, is_current, issue_result, next_phase, stamp_of}
use Rattle.group.specs.Entries.{after_entry, open_month, place_of, recorded_member}
use Rattle.group.specs.Months.{Prices, Share, bills_of}
use Rattle.group.specs.Years.{after_year, next_year, open_year, year_figures}
use Rattle.balance.proofs.Entries.{altered_found}
use Rattle.balance.proofs.Theorem.{ended_in, issued_is, opened_in}
use Rattle.balance.specs.CurrentDrafts.{DraftsStayByCall, DraftsStayByHistory}
use Rattle.balance.specs.Histories.{Event, Opening, Entering, Drawing, Checking, Issuing, Withdrawing, Closing, Happens, Leads}
use Rattle.balance.specs.Postings.{accepted_call, accepted_calls}

-- the group has gone past the month, or past the number of entries, of a draft
abbrev Past : Stamp → Phase → (entries : ℕ) → Type 0
Past stamp Blank entries = ⊥
Past stamp (Open month) entries =
    (stamp.month < month) ⊎ ((stamp.month ≡ month) × (stamp.entries < entries))
Past stamp (AtYearEnd december) entries = stamp.month ≤ december
Past stamp Over entries = Unit {0}

-- a group in a phase
abbrev in_phase : Phase → Group → Group
in_phase phase group = record group { phase = phase }

-- none of those is current
past_stale : (phase : Phase) (group : Group) (stamp : Stamp) → Past stamp phase group.entries → is_current (in_phase phase group) stamp ≡ false
past_stale Blank group stamp past = refl
past_stale (Open month) group stamp past =
    ⊎_elim
    (λ (later : stamp.month < month). let e : is_current (in_phase (Open month) group) stamp ≡ false = grind (arith, nat_tests) in e)
    (λ (more : (stamp.month ≡ month) × (stamp.entries < group.entries)).
    let less = more.1 in
    let e : is_current (in_phase (Open month) group) stamp ≡ false = grind (arith, nat_tests) in e)
    past
past_stale (AtYearEnd december) group stamp past = refl
past_stale Over group stamp past = refl

-- a current draft has the month and the entries of the group
current_month : (phase : Phase) (group : Group) (stamp : Stamp) → is_current (in_phase phase group) stamp ≡ true → (phase ≡ Open stamp.month) × (stamp.entries ≡ group.entries)
current_month Blank group stamp is = absurd cc
current_month (Open month) group stamp is =
    let m : month ≡ stamp.month = grind (arith, nat_tests) in
    let n : stamp.entries ≡ group.entries = grind (arith, nat_tests) in
    (ap Open m, n)
current_month (AtYearEnd december) group stamp is = absurd cc
current_month Over group stamp is = absurd cc

-- what an accepted entry makes of the phase and the entries
entry_moves : (entry : Entry) (old new : Group) → after_entry entry old ≡ Ok new → (new.phase ≡ old.phase) × (new.entries ≡ old.entries + 1)
entry_moves entry old new is =
    let (month, opens, rest) = and_then_ok (open_month old.phase) (λ (m : ℕ). entry_result (place_of entry) (recorded_member m entry) old) new is in
    let (member, changed, found, stepped, same) = altered_found (place_of entry) (recorded_member month entry) old new rest in
    (ap (λ (g : Group). g.phase) (sym same), ap (λ (g : Group). g.entries) (sym same))

-- and an accepted issue
issue_moves : (share : Share) (prices : ℕ → Prices) (stamp : Stamp) (places : ℕ) (old new : Group) (bills : List Bill) → issue_result share prices stamp places old ≡ Ok (bills, new) → (month : ℕ) × (old.phase ≡ Open month) × (new.phase ≡ next_phase month)
issue_moves share prices stamp places old new bills is =
    let (month, opens, writes, becomes) = issued_is share prices stamp places old new bills is in
    (month, opens, ap (λ (g : Group). g.phase) (sym becomes))

-- the phase after a month is past its drafts
past_issue : (stamp : Stamp) (month entries : ℕ) → stamp.month ≤ month → Past stamp (next_phase month) entries
past_issue stamp month entries within = grind (arith, nat_tests)

past_year : (stamp : Stamp) (december entries : ℕ) → stamp.month ≤ december → Past stamp (next_year december) entries
past_year stamp december entries within = grind (arith, nat_tests)

past_entry : (stamp : Stamp) (phase : Phase) (few more : ℕ) → few ≤ more → Past stamp phase few → Past stamp phase more
past_entry stamp Blank few more within past = past
past_entry stamp (Open month) few more within past = ⊎_elim (λ later. inl later) (λ m. inr (m.0, omega (arith, m.1, within))) past
past_entry stamp (AtYearEnd december) few more within past = past
past_entry stamp Over few more within past = past

-- an accepted entry of the draft's month or of a later one goes past the draft
entry_past : (entry : Entry) (old new : Group) (stamp : Stamp) → after_entry entry old ≡ Ok new → Past stamp old.phase (old.entries + 1) → Past stamp new.phase new.entries
entry_past entry old new stamp is past =
    let (phase, entries) = entry_moves entry old new is in
    subst (λ p. Past stamp p new.entries) (sym phase) (subst (λ n. Past stamp old.phase n) (sym entries) past)

-- and an accepted issue
issue_past : (share : Share) (prices : ℕ → Prices) (issue : Stamp) (places : ℕ) (old new : Group) (bills : List Bill) (stamp : Stamp) → issue_result share prices issue places old ≡ Ok (bills, new) → ((month : ℕ) → old.phase ≡ Open month → stamp.month ≤ month) → Past stamp new.phase new.entries
issue_past share prices issue places old new bills stamp is within =
    let (month, opens, becomes) = issue_moves share prices issue places old new bills is in
    subst (λ p. Past stamp p new.entries) (sym becomes) (past_issue stamp month new.entries (within month opens))

-- a draft that is current is of the open month
current_within : (group : Group) (stamp : Stamp) → is_current group stamp ≡ true → (month : ℕ) → group.phase ≡ Open month → stamp.month ≤ month
current_within group stamp is month opens =
    let (phase, entries) = current_month group.phase group stamp is in
    let same : Open stamp.month ≡ Open month = sym phase ∙ opens in
    let e : stamp.month ≡ month = cc in
    omega (arith, e)

-- so is one that the group has gone past, or of an earlier one
past_within : (phase : Phase) (entries : ℕ) (stamp : Stamp) → Past stamp phase entries → (month : ℕ) → phase ≡ Open month → stamp.month ≤ month
past_within Blank entries stamp past month opens = absurd past
past_within (Open m) entries stamp past month opens =
    let e : m ≡ month = cc in
    ⊎_elim (λ later. omega (arith, later, e)) (λ same. omega (arith, same.0, e)) past
past_within (AtYearEnd december) entries stamp past month opens = absurd cc
past_within Over entries stamp past month opens = absurd cc

past_end : (phase : Phase) (entries : ℕ) (stamp : Stamp) → Past stamp phase entries → (december : ℕ) → phase ≡ AtYearEnd december → stamp.month ≤ december
past_end Blank entries stamp past december ends = absurd past
past_end (Open m) entries stamp past december ends = absurd cc
past_end (AtYearEnd d) entries stamp past december ends = let e : d ≡ december = cc in omega (arith, past, e)
past_end Over entries stamp past december ends = absurd cc

stamped_current : (phase : Phase) (month : ℕ) (group : Group) → phase ≡ Open month → is_current (in_phase phase group) (stamp_of month group) ≡ true
stamped_current Blank month group is = absurd cc
stamped_current (Open m) month group is = let e : m ≡ month = cc in grind (arith, nat_tests)
stamped_current (AtYearEnd december) month group is = absurd cc
stamped_current Over month group is = absurd cc

drawn_now : (share : Share) (prices : ℕ → Prices) (places : ℕ) (group : Group) (stamp : Stamp) (bills : List Bill) → drawing_result share prices places group ≡ Ok (stamp, bills) → is_current group stamp ≡ true
drawn_now share prices places group stamp bills is =
    let (month, draws, same) = made_ok (λ (m : ℕ). (stamp_of m group, bills_of share (prices m) group)) (drawing_month places group) (stamp, bills) is in
    let (m, opens, fits) = and_then_ok (open_month group.phase) (λ (n : ℕ). if nat_lt places (length group.members.items) then Err refused.Bills else Ok n) month draws in
    let e : m ≡ month = grind (arith, nat_tests) in
    let phase : group.phase ≡ Open month = opened_in group.phase m opens ∙ ap Open e in
    let stamped_is : stamp_of month group ≡ stamp = ap (λ (p : Stamp × List Bill). p.0) same in
    subst (λ s. is_current group s ≡ true) stamped_is (stamped_current group.phase month group phase)

unopened_blank : (phase : Phase) (done : Unit {0}) → blank_check phase ≡ Ok done → phase ≡ Blank
unopened_blank Blank done is = refl
unopened_blank (Open m) done is = absurd cc
unopened_blank (AtYearEnd d) done is = absurd cc
unopened_blank Over done is = absurd cc

-- a draft that is current, or was and has been gone past
abbrev Since : Stamp → Group → Type 0
Since stamp group = (is_current group stamp ≡ true) ⊎ Past stamp group.phase group.entries

-- there is none in a blank book
none_of_blank : (group : Group) (stamp : Stamp) → group.phase ≡ Blank → Since stamp group → ⊥
none_of_blank group stamp is since =
    ⊎_elim
    (λ current. let e : Blank ≡ Open stamp.month = sym is ∙ (current_month group.phase group stamp current).0 in absurd cc)
    (λ past. let none : Past stamp Blank group.entries = subst (λ p. Past stamp p group.entries) is past in none)
    since

-- each is gone past by one entry more
since_entry : (group : Group) (stamp : Stamp) → Since stamp group → Past stamp group.phase (group.entries + 1)
since_entry group stamp since =
    ⊎_elim
    (λ current.
    let (phase, entries) = current_month group.phase group stamp current in
    let more : stamp.entries < group.entries + 1 = omega (arith, entries) in
    let now : Past stamp (Open stamp.month) (group.entries + 1) = inr (refl, more) in
    subst (λ p. Past stamp p (group.entries + 1)) (sym phase) now)
    (λ past. past_entry stamp group.phase group.entries (group.entries + 1) (omega arith) past)
    since

since_within : (group : Group) (stamp : Stamp) → Since stamp group → (month : ℕ) → group.phase ≡ Open month → stamp.month ≤ month
since_within group stamp since month opens =
    ⊎_elim (λ current. current_within group stamp current month opens) (λ past. past_within group.phase group.entries stamp past month opens) since

since_end : (group : Group) (stamp : Stamp) → Since stamp group → (december : ℕ) → group.phase ≡ AtYearEnd december → stamp.month ≤ december
since_end group stamp since december ends =
    ⊎_elim
    (λ current. let e : AtYearEnd december ≡ Open stamp.month = sym ends ∙ (current_month group.phase group stamp current).0 in absurd cc)
    (λ past. past_end group.phase group.entries stamp past december ends)
    since

-- a call posts nothing and leaves the group, or it goes past each draft that was current before
abbrev QuietOrPast : Event → (old new : Group) → Type 0
QuietOrPast event old new =
    ((accepted_call event ≡ []) × (new ≡ old))
    ⊎ ((accepted_call event ≢ []) × ((stamp : Stamp) → Since stamp old → Past stamp new.phase new.entries))

after_call : (share : Share) (prices : ℕ → Prices) (old : Group) (event : Event) (new : Group) → Happens share prices old event new → QuietOrPast event old new
after_call share prices old (Opening number start holder records (Ok done)) new happens =
    let (fresh, is, opens) = and_then_ok (blank_check old.phase) (λ (d : Unit {0}). opening_result number start holder records) new happens in
    inr (λ none. absurd cc, λ stamp since. absurd (none_of_blank old stamp (unopened_blank old.phase fresh is) since))
after_call share prices old (Opening number start holder records (Err refusal)) new happens = inl (refl, happens.1)
after_call share prices old (Entering entry (Ok done)) new happens = inr (λ none. absurd cc, λ stamp since. entry_past entry old new stamp happens (since_entry old stamp since))
after_call share prices old (Entering entry (Err refusal)) new happens = inl (refl, happens.1)
after_call share prices old (Drawing places answer) new happens = inl (refl, happens.1)
after_call share prices old (Checking stamp current) new happens = inl (refl, happens.1)
after_call share prices old (Issuing issue places (Ok bills)) new happens = inr (λ none. absurd cc, λ stamp since. issue_past share prices issue places old new bills stamp happens (since_within old stamp since))
after_call share prices old (Issuing issue places (Err refusal)) new happens = inl (refl, happens.1)
after_call share prices old (Withdrawing stamp) new happens = inl (refl, happens)
after_call share prices old (Closing (Ok figures)) new happens =
    let (december, is, same) = made_ok (λ (d : ℕ). (year_figures (prices d) old, after_year prices d old)) (open_year old.phase) (figures, new) happens in
    let phase : next_year december ≡ new.phase = ap (λ (p : YearEnd × Group). p.1.phase) same in
    inr (λ none. absurd cc, λ stamp since. subst (λ p. Past stamp p new.entries) phase (past_year stamp december new.entries (since_end old stamp since december (ended_in old.phase december is))))
after_call share prices old (Closing (Err refusal)) new happens = inl (refl, happens.1)

both_empty : {A : Type 0} (xs ys : List A) → xs ++ ys ≡ [] → (xs ≡ []) × (ys ≡ [])
both_empty [] ys is = (refl, is)
both_empty (x ∷ xs) ys is = absurd cc

-- a draft is current and nothing was posted after its drawing, or something was and it is gone past
since_drawn : (share : Share) (prices : ℕ → Prices) (earlier later : List Event) (places : ℕ) (stamp : Stamp) (bills : List Bill) (group : Group) → Leads share prices (later ++ Drawing places (Ok (stamp, bills)) ∷ earlier) group
    → ((accepted_calls later ≡ []) × (is_current group stamp ≡ true)) ⊎ ((accepted_calls later ≢ []) × Past stamp group.phase group.entries)
since_drawn share prices earlier [] places stamp bills group (before, leads, happens) =
    inl (refl, subst (λ g. is_current g stamp ≡ true) (sym happens.1) (drawn_now share prices places before stamp bills happens.0))
since_drawn share prices earlier (event ∷ later) places stamp bills group (before, leads, happens) =
    let was = since_drawn share prices earlier later places stamp bills before leads in
    let now = after_call share prices before event group happens in
    let posts = both_empty (accepted_call event) (accepted_calls later) in
    ⊎_elim
    (λ (fresh : (accepted_calls later ≡ []) × (is_current before stamp ≡ true)).
    ⊎_elim
    (λ (quiet : (accepted_call event ≡ []) × (group ≡ before)).
    inl (ap (λ l. l ++ accepted_calls later) quiet.0 ∙ fresh.0, subst (λ g. is_current g stamp ≡ true) (sym quiet.1) fresh.1))
    (λ loud. inr (λ none. loud.0 (posts none).0, loud.1 stamp (inl fresh.1)))
    now)
    (λ (gone : (accepted_calls later ≢ []) × Past stamp before.phase before.entries).
    ⊎_elim
    (λ (quiet : (accepted_call event ≡ []) × (group ≡ before)).
    inr (λ none. gone.0 (posts none).1, subst (λ (g : Group). Past stamp g.phase g.entries) (sym quiet.1) gone.1))
    (λ loud. inr (λ none. gone.0 (posts none).1, loud.1 stamp (inr gone.1)))
    now)
    was

stale_is : (group : Group) (stamp : Stamp) → Past stamp group.phase group.entries → is_current group stamp ≡ false
stale_is group stamp past = past_stale group.phase group stamp past

pub drafts_by_history : DraftsStayByHistory
drafts_by_history share prices earlier later places stamp bills group leads =
    let since = since_drawn share prices earlier later places stamp bills group leads in (
      λ current. ⊎_elim (λ h. h.0) (λ h. let e : true ≡ false = sym current ∙ stale_is group stamp h.1 in absurd cc) since,
      λ none. ⊎_elim (λ h. h.1) (λ h. absurd (h.0 none)) since,
    )

none_out : (phase : Phase) (group : Group) (stamp : Stamp) → ((month : ℕ) → phase ≢ Open month) → is_current (in_phase phase group) stamp ≡ false
none_out Blank group stamp out = refl
none_out (Open month) group stamp out = absurd (out month refl)
none_out (AtYearEnd december) group stamp out = refl
none_out Over group stamp out = refl

none_of_another : (phase : Phase) (group : Group) (stamp : Stamp) → stamp.number ≢ group.number → is_current (in_phase phase group) stamp ≡ false
none_of_another Blank group stamp other = refl
none_of_another (Open month) group stamp other = grind (arith, nat_tests)
none_of_another (AtYearEnd december) group stamp other = refl
none_of_another Over group stamp other = refl

quiet_leaves : (event : Event) (old new : Group) (stamp : Stamp) → accepted_call event ≡ [] → QuietOrPast event old new → is_current new stamp ≡ is_current old stamp
quiet_leaves event old new stamp none now = ⊎_elim (λ quiet. ap (λ g. is_current g stamp) quiet.1) (λ loud. absurd (loud.0 none)) now

pub drafts_by_call : DraftsStayByCall
drafts_by_call = record {
  drawn_now = drawn_now;
  by_entry = λ entry old new stamp is current. stale_is new stamp (entry_past entry old new stamp is (since_entry old stamp (inl current)));
  by_issue = λ share prices issue places old new bills stamp is current. stale_is new stamp (issue_past share prices issue places old new bills stamp is (current_within old stamp current));
  out_of_a_month = λ group stamp out. none_out group.phase group stamp out;
  of_another_group = λ group stamp other. none_of_another group.phase group stamp other;
  by_quiet_call = λ share prices old event new stamp happens none. quiet_leaves event old new stamp none (after_call share prices old event new happens);
}
