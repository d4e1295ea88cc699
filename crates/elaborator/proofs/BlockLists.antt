-- The steps that are added, by pieces, and how many commands they need.
use Rattle.std.proofs.Common.{◌≡◌, ◌<◌, ◌≤◌, ◌+◌, ℕ, zero, suc, List, [], ◌∷◌, ◌++◌, map, length, take, slice_index_or, Vec, refl, sym, ◌∙◌, ap, arith}
use Rattle.std.specs.Borrow.{Bor}
use Rattle.std.specs.declared.alloc.Global.{Global}
use Rattle.std.proofs.lemmas.Grind.{flat_map-append}
use Rattle.std.proofs.lemmas.List.{append-nil, map-append, take_more}
use Rattle.proof_store.specs.AddedSteps.{AddedStep}
use Rattle.elaborator.specs.Blocks.{blocks_of, commands_for, commands_needed}
use Rattle.elaborator.specs.Steps.{blocks_in, block_at}

-- a block by its index
pub block_is : (bs : List (Bor (Vec AddedStep Global))) (i : ℕ) (b : Bor (Vec AddedStep Global)) → i < length bs → b ≡ slice_index_or bs i b → b.now.items ≡ block_at (blocks_in bs) i
block_is [] i b less e = absurd (omega arith)
block_is (c ∷ bs) zero b less e = ap (λ (y : Bor (Vec AddedStep Global)). y.now.items) e
block_is (c ∷ bs) (suc i) b less e = block_is bs i b (omega arith) e

-- how many commands the blocks up to one need
needed_append : (xs ys : List (List AddedStep)) → commands_needed (xs ++ ys) ≡ commands_needed xs + commands_needed ys
needed_append [] ys = omega arith
needed_append (x ∷ xs) ys = let rest = needed_append xs ys in omega arith

pub needed_taken : (bs : List (Bor (Vec AddedStep Global))) (k : ℕ) (b : Bor (Vec AddedStep Global)) → k < length bs → b ≡ slice_index_or bs k b
    → commands_needed (blocks_in (take (k + 1) bs)) ≡ commands_needed (blocks_in (take k bs)) + commands_for b.now.items
needed_taken bs k b less e =
    let next = take_more bs k b less in
    let taken : blocks_in (take (k + 1) bs) ≡ blocks_in (take k bs) ++ b.now.items ∷ [] =
    ap blocks_in next
    ∙ (map-append (λ (y : Bor (Vec AddedStep Global)). y.now.items) (take k bs) (slice_index_or bs k b ∷ [])
    ∙ ap (λ (y : Bor (Vec AddedStep Global)). blocks_in (take k bs) ++ y.now.items ∷ []) (sym e)) in
    let one = needed_append (blocks_in (take k bs)) (b.now.items ∷ []) in
    ap commands_needed taken ∙ (one ∙ (omega arith))

needed_less : (bs : List (Bor (Vec AddedStep Global))) (k : ℕ) → commands_needed (blocks_in (take k bs)) ≤ commands_needed (blocks_in bs)
needed_less bs zero = omega arith
needed_less [] (suc k) = omega arith
needed_less (b ∷ bs) (suc k) = let rest = needed_less bs k in omega arith

pub needed_enough : (bs : List (Bor (Vec AddedStep Global))) (k most : ℕ) (b : Bor (Vec AddedStep Global)) → k < length bs → b ≡ slice_index_or bs k b
    → most ≤ commands_needed (blocks_in (take k bs)) + commands_for b.now.items → most ≤ commands_needed (blocks_in bs)
needed_enough bs k most b less e enough =
    let next = needed_taken bs k b less e in
    let rest = needed_less bs (k + 1) in omega arith

pub pieces_next : (pieces : List (Vec (Vec AddedStep Global) Global)) (k : ℕ) (piece : Vec (Vec AddedStep Global) Global) (old new : List (List AddedStep)) (xs : List (Vec AddedStep Global))
    → k < length pieces → piece ≡ slice_index_or pieces k piece → old ≡ blocks_of (take k pieces)
    → new ≡ old ++ map (λ (block : Vec AddedStep Global). block.items) xs → xs ≡ piece.items → new ≡ blocks_of (take (k + 1) pieces)
pieces_next pieces k piece old new xs less is before more same =
    let f = λ (p : Vec (Vec AddedStep Global) Global). map (λ (block : Vec AddedStep Global). block.items) p.items in
    let next = take_more pieces k piece less in
    let taken : blocks_of (take (k + 1) pieces) ≡ blocks_of (take k pieces) ++ map (λ (block : Vec AddedStep Global). block.items) piece.items =
    ap blocks_of next
    ∙ (flat_map-append f (take k pieces) (slice_index_or pieces k piece ∷ [])
    ∙ ap (λ ys. blocks_of (take k pieces) ++ ys) (append-nil (f (slice_index_or pieces k piece)) ∙ ap f (sym is))) in
    more ∙ (ap (λ ys. ys ++ map (λ (block : Vec AddedStep Global). block.items) xs) before
    ∙ (ap (λ ys. blocks_of (take k pieces) ++ map (λ (block : Vec AddedStep Global). block.items) ys) same ∙ sym taken))

pub one_if_none : (block : List AddedStep) → length block ≡ 0 → commands_for block ≡ 1
one_if_none [] e = refl
one_if_none (a ∷ block) e = absurd (omega arith)

pub as_many : (block : List AddedStep) → 0 < length block → commands_for block ≡ length block
as_many [] some = absurd (omega arith)
as_many (a ∷ block) some = omega arith
