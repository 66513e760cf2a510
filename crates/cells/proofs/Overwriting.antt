-- A text that is written into a slice part after part.
use Rattle.std.proofs.Common.{◌≡◌, ℕ, ◌+◌, ◌≤◌, List, ◌++◌, length, take, drop, Some, None, Ok, Option, Result, sym, refl, ap, ◌∙◌, subst, arith}
use lib.Seq.{paste}
use Rattle.cells.specs.Cells.{Puts, WritesWhereItFits, overwritten_text}
use Rattle.std.proofs.lemmas.List.Edits.{paste_all, paste-paste}
use Rattle.std.proofs.lemmas.List.{length-append}
use Rattle.std.specs.Option.{ok_or}

-- a text and then another after it are the two as one text
pub overwritten_more : (old : List ℕ) (at next : ℕ) (text more : List ℕ) → at ≤ length old → next ≡ at + length text → overwritten_text (overwritten_text old at text) next more ≡ overwritten_text old at (text ++ more)
overwritten_more old at next text more room after =
    let both = sym (length-append text more) in
    ap (λ n. overwritten_text (overwritten_text old at text) n more) after
    ∙ ap (λ mid. overwritten_text mid (at + length text) more) (sym (paste_all old at text (length text) refl))
    ∙ sym (paste_all (paste old at text (length text)) (at + length text) more (length more) refl)
    ∙ paste-paste old at text more (length text) (length more) refl refl room
    ∙ paste_all old at (text ++ more) (length text + length more) both
    ∙ ap (λ n. take at old ++ ((text ++ more) ++ drop (at + n) old)) both

-- two writers, one after the other, write the two texts as one
pub put_more : {old : List ℕ} {at : ℕ} {text more mid new : List ℕ} {next end : ℕ} → Puts old at text mid next → Puts mid next more new end → at ≤ length old → Puts old at (text ++ more) new end
put_more {old} {at} {text} {more} {mid} {new} {next} {end} first second room =
    record {
      stop = omega (arith, first.stop, second.stop, length-append text more);
      held =
          second.held
          ∙ ap (λ list. overwritten_text list next more) first.held
          ∙ overwritten_more old at next text more room first.stop;
    }

-- the same text in other words
pub put_as : {old : List ℕ} {at : ℕ} {text other new : List ℕ} {end : ℕ} → text ≡ other → Puts old at text new end → Puts old at other new end
put_as {old} {at} {text} {other} {new} {end} same put =
    let P : List ℕ → Type 0 = λ words. Puts old at words new end in
    subst P same put

-- a text that is no longer than the slice is written whole, and the writer does not answer that there is no room
pub written_whole : {E : Type 0} (refusal : E) (text old new : List ℕ) (put : Option ℕ) (r : Result ℕ E) → length text ≤ length old → WritesWhereItFits old 0 text new put → r ≡ ok_or put refusal → (r ≡ Ok (length text)) × (new ≡ overwritten_text old 0 text)
written_whole refusal text old new None r short written is = absurd (omega (arith, written.0))
written_whole refusal text old new (Some end) r short written is =
    let same : end ≡ length text = omega (arith, written.0) in
    (is ∙ ap (λ n. Ok n) same, written.2)
