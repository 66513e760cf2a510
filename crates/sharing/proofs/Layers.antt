-- One place more of the layer of parts, and what it hands to the rule below.
use Rattle.std.proofs.Common.{◌≡◌, ℕ, zero, suc, ◌+◌, ◌-◌, ◌<◌, ◌≤◌, List, [], ◌∷◌, ◌++◌, length, get_or, take, drop, set, sum, sym, refl, ap, ◌∙◌, append-nil, length-set, add-zero, add-one, arith}
use Rattle.std.proofs.lemmas.List.{drop_more, drop_all, drop-drop, drop-set-lt, get_or-drop}
use Rattle.sharing.specs.Law.{plus, less}
use Rattle.sharing.specs.Rules.{ahead, reserved}
use Rattle.sharing.proofs.Admission.{Admitted}
use Rattle.sharing.specs.KeepingTheLaw.{sum_cons, length_less, get_or_less}
use Rattle.sharing.proofs.Writing.{Begun, begun_more}

-- what is set aside from a place on
abbrev from : (pool : ℕ) (parts ns : List ℕ) (place : ℕ) → List ℕ
from pool parts ns place = reserved pool (drop place parts) (drop place ns)

from_suc : (pool : ℕ) (parts ns : List ℕ) (place : ℕ) → place < length ns → from pool parts ns place ≡ ahead pool (get_or parts place 0) (get_or ns place 0) ∷ from pool parts ns (suc place)
from_suc pool parts [] place within = absurd (omega arith)
from_suc pool [] (need ∷ ns) zero within = ap (λ x. x ∷ reserved pool [] ns) (omega arith)
from_suc pool (part ∷ parts) (need ∷ ns) zero within = refl
from_suc pool [] (need ∷ ns) (suc place) within =
    let none = drop_all {X = ℕ} place [] (omega arith) in
    ap (λ l. reserved pool l (drop place ns)) (sym none) ∙ from_suc pool [] ns place (omega arith)
from_suc pool (part ∷ parts) (need ∷ ns) (suc place) within = from_suc pool parts ns place (omega arith)

pub at_start : (xs ys : List ℕ) (k : ℕ) → drop k xs ≡ drop k ys → get_or xs k 0 ≡ get_or ys k 0
at_start xs ys k same =
    let front : (l : List ℕ) → get_or (drop k l) 0 0 ≡ get_or l k 0 = λ l. get_or-drop k l 0 0 ∙ ap (λ i. get_or l i 0) (add-zero k) in
    sym (front xs) ∙ ap (λ l. get_or l 0 0) same ∙ front ys

-- so far the places before this one have what they get ahead set aside: from the pool, of which left is what remains,
-- and from their needs, of which the front of rest is what remains
pub record Aside (pool : ℕ) (parts ns : List ℕ) (place left : ℕ) (rest : List ℕ) (total : ℕ) (whole : List ℕ) : Type 0 where
  pub long : length rest ≡ 32
  pub fits : sum (from pool parts ns place) ≤ left
  pub same : left - sum (from pool parts ns place) ≡ total
  pub begun : Begun rest place (less (drop place ns) (from pool parts ns place)) whole

-- own is what the place gets ahead of the others
module _ (pool : ℕ) (parts ns : List ℕ) (place own : ℕ) (within : place < length ns) (is : own ≡ ahead pool (get_or parts place 0) (get_or ns place 0)) where
  from_more : from pool parts ns place ≡ own ∷ from pool parts ns (place + 1)
  from_more = rw add-one (from_suc pool parts ns place within ∙ ap (λ x. x ∷ from pool parts ns (suc place)) (sym is))

  -- what the place gets ahead is there in what is left of the pool
  pub own_fits : (left : ℕ) → sum (from pool parts ns place) ≤ left → own ≤ left
  own_fits left fits = omega (arith, fits, ap sum from_more ∙ sum_cons own (from pool parts ns (place + 1)))

  -- one place more is set aside from the pool and from the needs
  pub aside_more : (left : ℕ) (rest : List ℕ) (total : ℕ) (whole : List ℕ) → length ns ≤ 32 → Aside pool parts ns place left rest total whole →
      Aside pool parts ns (place + 1) (left - own) (set rest place (get_or ns place 0 - own)) total whole
  aside_more left rest total whole few so_far =
      let after = from pool parts ns (place + 1) in
      let aside = ap sum from_more ∙ sum_cons own after in
      let next = ap (less (drop place ns)) from_more ∙ ap (λ l. less l (own ∷ after)) (drop_more ns place 0 within) in
      record {
        long = length-set _ _ _ ∙ so_far.long;
        fits = omega (arith, aside, so_far.fits);
        same = omega (arith, aside, so_far.same);
        begun = begun_more rest place _ whole so_far.begun _ _ (omega (arith, so_far.long)) next;
      }

  -- one place more gets its amount added to its share
  pub added_more : (shares below whole : List ℕ) → length shares ≡ length ns → length below ≡ length ns → drop place shares ≡ drop place below → Begun shares place (plus (from pool parts ns place) (drop place below)) whole →
      (drop (place + 1) (set shares place (get_or shares place 0 + own)) ≡ drop (place + 1) below)
      × Begun (set shares place (get_or shares place 0 + own)) (place + 1) (plus (from pool parts ns (place + 1)) (drop (place + 1) below)) whole
  added_more shares below whole long as_long same begun =
      let after = from pool parts ns (place + 1) in
      let share : get_or shares place 0 ≡ get_or below place 0 = at_start shares below place same in
      let next : plus (from pool parts ns place) (drop place below) ≡ (get_or shares place 0 + own) ∷ plus after (drop (place + 1) below) =
      ap (λ first. plus first (drop place below)) from_more ∙ ap (plus (own ∷ after)) (drop_more below place 0 (omega arith)) ∙ ap (λ x. x ∷ plus after (drop (place + 1) below)) (omega (arith, share)) in (
        drop-set-lt (place + 1) shares place _ (omega arith) ∙ sym (drop-drop 1 place shares) ∙ ap (drop 1) same ∙ drop-drop 1 place below,
        begun_more shares place _ whole begun _ _ (omega arith) next,
      )

-- at the end nothing is yet to be set aside
module _ (pool : ℕ) (parts ns : List ℕ) (place : ℕ) (done : length ns ≤ place) where
  from_all : from pool parts ns place ≡ []
  from_all = ap (reserved pool (drop place parts)) (drop_all place ns done)

  pub all_aside : (left : ℕ) (rest : List ℕ) (total : ℕ) (whole : List ℕ) → place ≤ length ns → Aside pool parts ns place left rest total whole → (left ≡ total) × (take (length ns) rest ≡ whole)
  all_aside left rest total whole last aside =
      let none = ap (λ l. less l (from pool parts ns place)) (drop_all place ns done) in
      let upto : length ns ≡ place = omega arith in (
        omega (arith, aside.same, ap sum from_all),
        ap (λ n. take n rest) upto ∙ sym (append-nil (take place rest)) ∙ ap (λ l. take place rest ++ l) (sym none) ∙ aside.begun,
      )

-- what is left of an admitted pool and its needs is admitted
pub rest_admitted : (pool : ℕ) (needs first : List ℕ) (places : ℕ) → Admitted pool needs places → Admitted (pool - sum first) (less needs first) places
rest_admitted pool ns first places fit = record {
  some = omega (arith, fit.some, length_less ns first);
  few = omega (arith, fit.few, length_less ns first);
  matching = fit.matching ∙ sym (length_less ns first);
  pool_within = omega (arith, fit.pool_within);
  needs_within = λ k. omega (arith, get_or_less ns first k, fit.needs_within k);
}
