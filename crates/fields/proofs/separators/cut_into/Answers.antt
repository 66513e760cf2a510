use Rattle.std.proofs.Common.{◌≡◌, ℕ, ◌-◌, List, length, refl, ap, subst, arith, length-set, Bor}
use Rattle.fields.proofs.Counting.{commas_in, first_counted, lacks_by_count, none_counted}
use Rattle.fields.proofs.Parting.{Leads, leads_on, leads_to_all, texts_counted}
use Rattle.fields.proofs.separators.cut_into.Goals as goal

pub returns-then-not-has_commas : goal.returns-then-not-has_commas
returns-then-not-has_commas c =
    (λ texts count is. let counted = texts_counted texts c.args.text.now is in absurd (grind (arith, counted)), refl)

pub unreachable-requires : goal.unreachable-requires
unreachable-requires c = omega (arith, none_counted c.loop-place.rest.now c.in_default.ensures, c.loop-place.invariant.left)

pub loop-place-preserved : goal.loop-place-preserved
loop-place-preserved c =
    let cut = c.in-Some.ensures in record {
      left = omega (arith, first_counted c.in-Some.field.now c.in-Some.after.now cut.1, ap commas_in cut.0, length-set {A = Bor (List ℕ)});
      parted = leads_on c.loop-place.fields c.loop-place.place c.in-Some.field (omega arith) cut c.loop-place.invariant.parted;
    }

pub returns : goal.returns
returns c =
    let last = length c.args.fields.now - 1 in
    let all : c.loop-place.place ≡ last = omega arith in (
      omega (arith, length-set {A = Bor (List ℕ)}),
      leads_to_all c.loop-place.fields last c.loop-place.rest (omega arith)
          (lacks_by_count c.loop-place.rest.now (omega (arith, c.loop-place.invariant.left)))
          (subst (λ place. Leads c.loop-place.fields place c.loop-place.rest.now c.args.text.now) all c.loop-place.invariant.parted),
    )
