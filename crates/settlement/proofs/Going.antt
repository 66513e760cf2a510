-- How far a run has come: what is still to run comes, behind the text so far, to what all comes to.
use Rattle.std.proofs.Common.{◌≡◌, ◌∙◌, ℕ, ◌+◌, ◌-◌, ◌<◌, ◌≤◌, List, [], ◌∷◌, ◌++◌, length, Ok, Err, None, Some, Result, append_assoc, refl, sym, ap, subst, arith}
use Rattle.std.proofs.lemmas.List.{append-nil, length-append}
use Rattle.cells.proofs.Overwriting.{put_as, put_more}
use Rattle.cells.specs.Cells.{Puts}
use Rattle.group.specs.declared.group.Group.{Group}
use Rattle.journal.specs.Lines.{ReadsLine}
use Rattle.journal.specs.declared.line.Line.{Line}
use Rattle.journal.specs.declared.refusal.LineFault.{LineFault}
use Rattle.group.specs.Months.{Prices, Share}
use Rattle.settlement.proofs.Billing.{put_none}
use Rattle.settlement.specs.Runs.{RunsBody, GoesOn, RunsLines, RunResult, after_text, ended_run, stopped_run}
use Rattle.settlement.specs.Steps.{DoesText, after_reading}
use Rattle.settlement.specs.Texts.{text_lines}
use Rattle.settlement.specs.declared.fault.RunFault.{RunFault}
use Rattle.settlement.specs.declared.fault.RunRefusal.{RunRefusal}

pub record Going (share : Share) (prices : ℕ → Prices) (body : List ℕ) (at : ℕ) (old : List ℕ) (start : Group) (written number : ℕ) (rest out : List ℕ) (group : Group) : Type 0 where
  pub text : List ℕ
  pub put : Puts old at text out written
  pub begun : at ≤ length old
  pub inside : written ≤ length out
  pub counted : number + length rest ≤ length body + 1
  pub on : (ran : RunResult) → RunsLines share prices (length out - written) (number + 1) (text_lines rest) group ran → RunsLines share prices (length old - at) 2 (text_lines body) start (after_text text ran)

pub going_begins : (share : Share) (prices : ℕ → Prices) (body : List ℕ) (at : ℕ) (old : List ℕ) (start : Group) → at ≤ length old → Going share prices body at old start at 1 body old start
going_begins share prices body at old start inside = record {
  text = [];
  put = put_none old at;
  begun = inside;
  inside = inside;
  counted = omega arith;
  on = λ ran runs. runs;
}

module _ (share : Share) (prices : ℕ → Prices) (body : List ℕ) (at : ℕ) (old : List ℕ) (start : Group) (written number : ℕ) (rest out : List ℕ) (group : Group) (going : Going share prices body at old start written number rest out group) where
  abbrev Rest : (line after : List ℕ) → List ℕ → Group → RunResult → Type 0
  Rest line after text new later = RunsLines share prices ((length out - written) - length text) (number + 1 + 1) (text_lines after) new later

  -- the next line and what is behind it run where they do so apart
  run_next : (line after : List ℕ) (reading : Result Line LineFault) (step : Result (List ℕ × Group) RunRefusal) (ran : RunResult) → text_lines rest ≡ line ∷ text_lines after → ReadsLine line (number + 1) reading → after_reading share prices (length out - written) reading group ≡ step → GoesOn (number + 1) group step (Rest line after) ran → RunsLines share prices (length out - written) (number + 1) (text_lines rest) group ran
  run_next line after reading step ran lines read is goes =
      subst (λ ls. RunsLines share prices (length out - written) (number + 1) ls group ran) (sym lines)
      (reading, read, subst (λ s. GoesOn (number + 1) group s (Rest line after) ran) (sym is) goes)

  -- nothing more is written
  goes_to : (ran : RunResult) → ran.text ≡ [] → RunsLines share prices (length out - written) (number + 1) (text_lines rest) group ran → RunsBody share prices body at (old, start) (record { written = written; fault = ran.fault }) (out, ran.group)
  goes_to ran nothing runs = (
    after_text going.text ran,
    going.on ran runs,
    (refl, put_as (sym (ap (λ t. going.text ++ t) nothing ∙ append-nil going.text)) going.put, refl),
  )

  -- there are no more lines
  pub going_ends : rest ≡ [] → RunsBody share prices body at (old, start) (record { written = written; fault = None }) (out, group)
  going_ends none =
      goes_to (ended_run group) refl
      (subst (λ r. RunsLines share prices (length out - written) (number + 1) (text_lines r) group (ended_run group)) (sym none) refl)

  -- the next line is refused
  pub going_stops : (line after : List ℕ) (fault : RunFault) (new_out : List ℕ) (new : Group) → text_lines rest ≡ line ∷ text_lines after → DoesText share prices line (number + 1) written (out, group) (Err fault) (new_out, new) → RunsBody share prices body at (old, start) (record { written = written; fault = Some fault }) (new_out, new)
  going_stops line after fault new_out new lines (reading, read, ((refuses, is), same)) =
      subst (λ (pair : List ℕ × Group). RunsBody share prices body at (old, start) (record { written = written; fault = Some fault }) pair) (sym same)
      (subst (λ (f : RunFault). RunsBody share prices body at (old, start) (record { written = written; fault = Some f }) (out, group)) (sym is)
      (goes_to (stopped_run (number + 1) fault.refusal group) refl
      (run_next line after reading (Err fault.refusal) (stopped_run (number + 1) fault.refusal group) lines read refuses refl)))

  -- the next line is done
  pub going_on : (line after : List ℕ) (end : ℕ) (new_out : List ℕ) (new : Group) → text_lines rest ≡ line ∷ text_lines after → rest ≡ line ++ after → 0 < length line → length new_out ≡ length out → end ≤ length new_out → DoesText share prices line (number + 1) written (out, group) (Ok end) (new_out, new) → Going share prices body at old start end (number + 1) after new_out new
  going_on line after end new_out new lines whole some wide fits (reading, read, (text, is, put)) =
      let left : (length out - written) - length text ≡ length new_out - end = omega (arith, put.stop, wide) in
      record {
        text = going.text ++ text;
        put = put_more going.put put going.begun;
        begun = going.begun;
        inside = fits;
        counted = omega (arith, going.counted, ap length whole, length-append line after, some);
        on = λ ran runs.
            let here = subst (λ n. RunsLines share prices n (number + 1 + 1) (text_lines after) new ran) (sym left) runs in
            let from_rest = run_next line after reading (Ok (text, new)) (after_text text ran) lines read is (ran, here, refl) in
            subst (λ t. RunsLines share prices (length old - at) 2 (text_lines body) start (record ran { text = t }))
            (sym (append_assoc going.text text ran.text)) (going.on (after_text text ran) from_rest);
      }
