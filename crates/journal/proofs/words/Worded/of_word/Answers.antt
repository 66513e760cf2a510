use Rattle.std.proofs.Common.{◌≡◌, ℕ, ◌<◌, List, length, Some, None, Option, MatchOption, ◌≢◌, sym, arith, rules, tests}
use Rattle.std.specs.List.{AllWithin, Contains, HoldsAt}
use Rattle.std.proofs.lemmas.Iterator.{YieldsList-from_slice, first_from_find}
use Rattle.std.proofs.lemmas.Iterator.Consumers.{YieldsList-from_copied}
use Rattle.std.proofs.lemmas.List.Elements.{All-contains}
use Rattle.fields.specs.Reads.{Reads}
use Rattle.journal.proofs.words.Worded.of_word.Goals as goal

-- the first of the values with the word is read from it, where these are all the values
read_from_first : {W : Type 0} (word_of : W → List ℕ) (values : List W) (word : List ℕ) (r : Option W) → ((value : W) → Contains values value) → MatchOption r (AllWithin (λ v. word_of v ≢ word) values 0 (length values)) (λ x. (word_of x ≡ word) × (i : ℕ) × (i < length values) × HoldsAt (λ y. y ≡ x) values i × AllWithin (λ v. word_of v ≢ word) values 0 i) → Reads (λ _. Unit {0}) word_of word r
read_from_first word_of values word None all none =
    λ value fine e. All-contains (λ v. word_of v ≢ word) values value (λ k d. none k d (omega arith)) (all value) (sym e)
read_from_first word_of values word (Some x) all first = (tt, sym first.0)

pub returns : goal.returns
returns g c =
    let word_of = g.Self.Worded.word_of in
    let word = c.args.word.now in
    let values = c.all.result.now in
    read_from_first word_of values word c.find.result c.all.ensures
    (first_from_find _ _ _ (λ value. word_of value ≡ word) (λ value. word_of value ≢ word) c.find.ensures.ran
    (YieldsList-from_copied (YieldsList-from_slice values cc)) (λ x q k. search (rules, tests)) (λ x q k. search (rules, tests)))
