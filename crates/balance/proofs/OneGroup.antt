-- A history leads to one group alone.
use Rattle.std.proofs.Common.{◌≡◌, ℕ, [], ◌∷◌, Ok, Err, Result, sym, ap, ◌∙◌, subst}
use Rattle.group.specs.Results.{Answers, Follows}
use Rattle.group.specs.declared.group.Group.{Group}
use Rattle.group.specs.declared.refusal.BookRefusal.{BookRefusal}
use Rattle.group.specs.Months.{Prices, Share}
use Rattle.balance.specs.Histories.{Event, Opening, Entering, Drawing, Checking, Issuing, Withdrawing, Closing, Happens, LeadsToOneGroup}

one_followed : (step : Result Group BookRefusal) (old one other : Group) (answer : Result (Unit {0}) BookRefusal) → Follows step old answer one → Follows step old answer other → one ≡ other
one_followed step old one other (Ok done) a b = let both : Ok one ≡ Ok other = sym a ∙ b in cc
one_followed step old one other (Err refusal) a b = a.1 ∙ sym b.1

one_answered : {A : Type 0} (step : Result (A × Group) BookRefusal) (old one other : Group) (answer : Result A BookRefusal) → Answers step old answer one → Answers step old answer other → one ≡ other
one_answered {A} step old one other (Ok answer) a b =
    let p : A × Group = (answer, one) in
    let q : A × Group = (answer, other) in
    let both : ◌≡◌ {A = Result (A × Group) BookRefusal} (Ok p) (Ok q) = sym a ∙ b in
    let same : p ≡ q = cc in
    ap (λ (r : A × Group). r.1) same
one_answered step old one other (Err refusal) a b = a.1 ∙ sym b.1

-- a call with its answer makes one group of another
happens_once : (share : Share) (prices : ℕ → Prices) (old : Group) (event : Event) (one other : Group) → Happens share prices old event one → Happens share prices old event other → one ≡ other
happens_once share prices old (Opening number start holder records answer) one other a b = one_followed _ old one other answer a b
happens_once share prices old (Entering entry answer) one other a b = one_followed _ old one other answer a b
happens_once share prices old (Drawing places answer) one other a b = a.1 ∙ sym b.1
happens_once share prices old (Checking stamp current) one other a b = a.1 ∙ sym b.1
happens_once share prices old (Issuing stamp places answer) one other a b = one_answered _ old one other answer a b
happens_once share prices old (Withdrawing stamp) one other a b = a ∙ sym b
happens_once share prices old (Closing answer) one other a b = one_answered _ old one other answer a b

pub leads_to_one_group : LeadsToOneGroup
leads_to_one_group share prices [] one other a b = a ∙ sym b
leads_to_one_group share prices (event ∷ history) one other (before, leads, happens) (before', leads', happens') =
    let same = leads_to_one_group share prices history before before' leads leads' in
    happens_once share prices before' event one other (subst (λ g. Happens share prices g event one) same happens) happens'
