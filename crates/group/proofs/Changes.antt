-- An entry alters one record, and a year closing that of the holder.
use Rattle.std.proofs.Common.{◌≡◌, ◌≢◌, ℕ, zero, suc, List, [], ◌∷◌, set, slice_get, Ok, Err, Result, ap, refl, subst, sym}
use Rattle.std.specs.Option.{ok_or}
use Rattle.ledger.specs.declared.bill.YearEnd.{YearEnd}
use Rattle.ledger.specs.declared.entry.Entry.{Entry}
use Rattle.group.proofs.EntriesSound.{altered_found}
use Rattle.group.proofs.Stepping.{and_then_ok, made_ok}
use Rattle.group.specs.Changes.{AltersOne, EntersOne, EntriesAlterOne, YearsAlterTheHolder}
use Rattle.group.specs.Entries.{after_entry, open_month, place_of, recorded_member}
use Rattle.group.specs.Groups.{entry_result}
use Rattle.group.specs.Months.{Prices}
use Rattle.group.specs.Results.{Answers, Follows}
use Rattle.group.specs.Years.{after_year, closing_result, credited_account, holder_of, open_year, year_figures}
use Rattle.group.specs.declared.group.Group.{Group}
use Rattle.group.specs.declared.member.Member.{Member}
use Rattle.group.specs.declared.refusal.BookRefusal.{BookRefusal}
use Rattle.group.specs.declared.refusal.BookRefusal.TheVariants as refused

-- a list is the same at every place but the one that is set
set_elsewhere : {X : Type 0} (xs : List X) (place other : ℕ) (x : X) → other ≢ place → slice_get (set xs place x) other ≡ slice_get xs other
set_elsewhere [] place other x apart = refl
set_elsewhere (y ∷ ys) zero zero x apart = absurd (apart refl)
set_elsewhere (y ∷ ys) zero (suc other) x apart = refl
set_elsewhere (y ∷ ys) (suc place) zero x apart = refl
set_elsewhere (y ∷ ys) (suc place) (suc other) x apart = set_elsewhere ys place other x (λ same. apart (ap suc same))

others_stay : (place other : ℕ) (member : Member) (members : List Member) → other ≢ place → ok_or (slice_get (set members place member) other) refused.Place ≡ ok_or (slice_get members other) refused.Place
others_stay place other member members apart = ap (λ found. ok_or found refused.Place) (set_elsewhere members place other member apart)

pub entries_alter_one : EntriesAlterOne
entries_alter_one entry old new is =
    let (month, opened, rest) = and_then_ok (open_month old.phase) (λ (m : ℕ). entry_result (place_of entry) (recorded_member m entry) old) new is in
    let (member, changed, found, room, stepped, same) = altered_found (place_of entry) (recorded_member month entry) old new rest in
    subst (λ (g : Group). EntersOne entry old g) same (record {
      one = record {
        others = λ other apart. others_stay (place_of entry) other changed old.members.items apart;
        number = refl;
        holder = refl;
      };
      carried = refl;
      phase = refl;
    })

pub years_alter_the_holder : YearsAlterTheHolder
years_alter_the_holder prices old new figures is =
    let (december, ended, same) = made_ok (λ (d : ℕ). (year_figures (prices d) old, after_year prices d old)) (open_year old.phase) (figures, new) is in
    subst (λ (g : Group). AltersOne old.holder old g) (ap (λ (r : YearEnd × Group). r.1) same) (record {
      others = λ other apart. others_stay old.holder other (record (holder_of old) { account = credited_account (prices december) old }) old.members.items apart;
      number = refl;
      holder = refl;
    })

-- the group as it was
nothing_altered : (place : ℕ) (group : Group) → AltersOne place group group
nothing_altered place group = record { others = λ other apart. refl; number = refl; holder = refl }

-- an entry that follows its step alters one record at most
pub entry_alters : (entry : Entry) (old new : Group) (r : Result (Unit {0}) BookRefusal) → Follows (after_entry entry old) old r new → EntersOne entry old new
entry_alters entry old new (Ok done) follows = entries_alter_one entry old new follows
entry_alters entry old new (Err refusal) follows =
    subst (λ (g : Group). EntersOne entry old g) (sym follows.1) (record { one = nothing_altered (place_of entry) old; carried = refl; phase = refl })

-- and so does a year closing
pub closing_alters : (prices : ℕ → Prices) (old new : Group) (r : Result YearEnd BookRefusal) → Answers (closing_result prices old) old r new → AltersOne old.holder old new
closing_alters prices old new (Ok figures) follows = years_alter_the_holder prices old new figures follows
closing_alters prices old new (Err refusal) follows =
    subst (λ (g : Group). AltersOne old.holder old g) (sym follows.1) (nothing_altered old.holder old)
