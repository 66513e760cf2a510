-- A run comes to one thing alone.
use Rattle.std.proofs.Common.{◌≡◌, ◌∙◌, ℕ, ◌+◌, ◌-◌, List, [], ◌∷◌, length, Ok, Err, Result, refl, sym, ap, subst, arith}
use Rattle.std.proofs.lemmas.List.{append_cancel_left}
use Rattle.group.specs.declared.group.Group.{Group}
use Rattle.journal.proofs.Forms.{one_answer}
use Rattle.journal.specs.Names.{journal_names}
use Rattle.journal.specs.declared.line.Line.{Line}
use Rattle.journal.specs.declared.refusal.LineFault.{LineFault}
use Rattle.settlement.specs.Output.{output_names}
use Rattle.group.specs.Months.{Prices, Share}
use Rattle.settlement.specs.Laws.{HasOneOutcome}
use Rattle.settlement.specs.Runs.{GoesOn, RunsLines, RunResult, after_text, no_journal, no_room, runs}
use Rattle.settlement.specs.Steps.{after_reading}
use Rattle.settlement.specs.Texts.{text_lines}
use Rattle.settlement.specs.declared.fault.RunRefusal.{RunRefusal}

once : (number : ℕ) (group : Group) (step : Result (List ℕ × Group) RunRefusal) (Rest : List ℕ → Group → RunResult → Type 0) (ran other : RunResult) → GoesOn number group step Rest ran → GoesOn number group step Rest other → ((text : List ℕ) (new : Group) (a b : RunResult) → Rest text new a → Rest text new b → a ≡ b) → ran ≡ other
once number group (Ok done) Rest ran other (a, rest, comes) (b, rest_too, comes_too) same =
    comes ∙ (ap (after_text done.0) (same done.0 done.1 a b rest rest_too) ∙ sym comes_too)
once number group (Err refusal) Rest ran other stops stops_too same = stops ∙ sym stops_too

lines_once : (share : Share) (prices : ℕ → Prices) (lines : List (List ℕ)) (room number : ℕ) (group : Group) (ran other : RunResult) → RunsLines share prices room number lines group ran → RunsLines share prices room number lines group other → ran ≡ other
lines_once share prices [] room number group ran other is is_too = is ∙ sym is_too
lines_once share prices (line ∷ lines) room number group ran other (reading, read, goes) (reading_too, read_too, goes_too) =
    let Rest : List ℕ → Group → RunResult → Type 0 = λ text new later. RunsLines share prices (room - length text) (number + 1) lines new later in
    let same = one_answer line number reading_too reading read_too read in
    once number group (after_reading share prices room reading group) Rest ran other goes
    (subst (λ (r : Result Line LineFault). GoesOn number group (after_reading share prices room r group) Rest other) same goes_too)
    (λ text new a b. lines_once share prices lines (room - length text) (number + 1) new a b)

pub one_outcome : HasOneOutcome
one_outcome share prices journal room group ran other (no_journal none) (no_journal none_too) = refl
one_outcome share prices journal room group ran other (no_journal none) (no_room body begins short) = absurd (none body begins)
one_outcome share prices journal room group ran other (no_journal none) (runs body first begins long lines) = absurd (none body begins)
one_outcome share prices journal room group ran other (no_room body begins short) (no_journal none) = absurd (none body begins)
one_outcome share prices journal room group ran other (no_room body begins short) (no_room body_too begins_too short_too) = refl
one_outcome share prices journal room group ran other (no_room body begins short) (runs body_too first begins_too long lines) = absurd (omega (arith, short, long))
one_outcome share prices journal room group ran other (runs body first begins long lines) (no_journal none) = absurd (none body begins)
one_outcome share prices journal room group ran other (runs body first begins long lines) (no_room body_too begins_too short) = absurd (omega (arith, short, long))
one_outcome share prices journal room group ran other (runs body first begins long lines) (runs body_too first_too begins_too long_too lines_too) =
    let same : body_too ≡ body = append_cancel_left journal_names body_too body (sym begins_too.1 ∙ begins.1) in
    let as_first = subst (λ b. RunsLines share prices (room - length output_names) 2 (text_lines b) group first_too) same lines_too in
    ap (after_text output_names) (lines_once share prices (text_lines body) (room - length output_names) 2 group first first_too lines as_first)
