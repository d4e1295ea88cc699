-- Clauses that are read one after the other, item by item.
use Rattle.std.proofs.Common.{◌≡◌, ℕ, zero, suc, ◌+◌, ◌<◌, ◌^◌, List, [], ◌∷◌, ◌++◌, length, map, get_or, take, All, refl, ◌∙◌, ap, arith}
use Rattle.std.specs.Borrow.{Bor}
use Rattle.std.specs.Global.{Vec}
use Rattle.std.specs.List.{AllZip}
use Rattle.std.proofs.lemmas.List.{take_more}
use Rattle.std.proofs.lemmas.List.Elements.{All-nil, All-cons}
use Rattle.rule_model.specs.Proofs.{ProofItems}
use Rattle.rule_model.specs.Reading.{clause_at, premises_at, premise_clauses}
use Rattle.term_model.proofs.Zips.{zip_push}
use Rattle.rules_resolution.specs.Loading.{AreListsOf}
use Rattle.rules_resolution.specs.Steps.{AreShort, IsShort}

-- one item more
pub zip_more : {X Y : Type 0} (R : X → Y → Type 0) (xs : List X) (ys : List Y) (i : ℕ) (d : X) (y : Y) → i < length xs
    → AllZip R (take i xs) ys → R (get_or xs i d) y → AllZip R (take (i + 1) xs) (ys ++ y ∷ [])
zip_more R xs ys i d y h z r = rw (take_more xs i d h) (zip_push R (take i xs) ys (get_or xs i d) y z r)

-- the item at a place
item_at : {A : Type 0} (xs : List A) (k : ℕ) → k < length xs → A
item_at [] k h = absurd (omega (arith, h))
item_at (x ∷ xs) zero h = x
item_at (x ∷ xs) (suc k) h = item_at xs k (omega (arith, h))

-- one clause more
pub lists_more : {X : Type 0} (Is : ℕ → X → Type 0) (clauses : List (Bor (List ℕ))) (k : ℕ) (c : Bor (List ℕ)) (old new : List (Vec X))
    → k < length clauses → k < length new → take k new ≡ take k old → AreListsOf Is (take k clauses) (take k old)
    → ((e : Vec X) → AllZip Is (get_or clauses k c).now (get_or new k e).items) → AreListsOf Is (take (k + 1) clauses) (take (k + 1) new)
lists_more Is clauses k c old new h there same before here =
    let e = item_at new k there in
    rw (take_more new k e there ∙ ap (λ lists. lists ++ get_or new k e ∷ []) same)
    (zip_more (λ (references : Bor (List ℕ)) (list : Vec _). AllZip Is references.now list.items) clauses (take k old) k c (get_or new k e) h before (here e))

-- premises of which none is long
each_short : (n : ℕ) (f : ℕ → List ℕ) (js : List ℕ) (premises : List (Bor (List ℕ))) → ((j : ℕ) → length (f j) < n)
    → map (λ p. p.now) premises ≡ map f js → (length premises ≡ length js) × All (λ (p : Bor (List ℕ)). length p.now < n) premises
each_short n f [] [] short e = (refl, All-nil (λ (p : Bor (List ℕ)). length p.now < n))
each_short n f (j ∷ js) [] short e = absurd cc
each_short n f [] (p ∷ premises) short e = absurd cc
each_short n f (j ∷ js) (p ∷ premises) short e =
    let here : p.now ≡ f j = cc in
    let others = each_short n f js premises short cc in
    (ap suc others.0, All-cons (λ (q : Bor (List ℕ)). length q.now < n) p premises (rw here (short j)) others.1)

pub short_premises : (proof : ProofItems ℕ ℕ) (i : ℕ) (premises : List (Bor (List ℕ))) → IsShort proof
    → map (λ p. p.now) premises ≡ premise_clauses proof i → AreShort premises
short_premises proof i premises short are =
    let each = each_short (2 ^ 32) (clause_at proof) (premises_at proof i) premises short.clauses are in
    record { few = rw each.0 (short.premises i); short = each.1 }
