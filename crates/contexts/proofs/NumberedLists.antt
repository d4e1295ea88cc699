-- Numbered lists: what stands at a number, and lists with one more.
use Rattle.std.proofs.Common.{◌≡◌, ℕ, zero, suc, ◌<◌, List, [], ◌∷◌, ◌++◌, length, get_or, Vec, refl, sym, ap, ◌∙◌, arith, length-append}
use Rattle.std.specs.declared.alloc.Global.{Global}
use Rattle.contexts.specs.Layers.{shadowed, KeepsLayers}

pub shadowed_at : (ls : List (Vec ℕ Global)) (n : ℕ) (v : Vec ℕ Global) → n < length ls → v ≡ get_or ls n v → shadowed ls n ≡ v.items
shadowed_at [] n v inside e = absurd (omega arith)
shadowed_at (x ∷ ls) zero v inside e = ap (λ (w : Vec ℕ Global). w.items) (sym e)
shadowed_at (x ∷ ls) (suc n) v inside e = shadowed_at ls n v (omega arith) e

shadowed_front : (ls : List (Vec ℕ Global)) (v : Vec ℕ Global) (n : ℕ) → n < length ls → shadowed (ls ++ v ∷ []) n ≡ shadowed ls n
shadowed_front [] v n inside = absurd (omega arith)
shadowed_front (x ∷ ls) v zero inside = refl
shadowed_front (x ∷ ls) v (suc n) inside = shadowed_front ls v n (omega arith)

shadowed_last : (ls : List (Vec ℕ Global)) (v : Vec ℕ Global) → shadowed (ls ++ v ∷ []) (length ls) ≡ v.items
shadowed_last [] v = refl
shadowed_last (x ∷ ls) v = shadowed_last ls v

pub pushed_last : (old new : List (Vec ℕ Global)) (v : Vec ℕ Global) (n : ℕ) → new ≡ old ++ v ∷ [] → n ≡ length old → shadowed new n ≡ v.items
pushed_last old new v n e f = rw (e, f) (shadowed_last old v)

pub pushed_keeps : (old new : List (Vec ℕ Global)) (v : Vec ℕ Global) → new ≡ old ++ v ∷ [] → KeepsLayers old new
pushed_keeps old new v e = rw e (record { more = rw (length-append old (v ∷ [])) (omega arith); same = λ n inside. shadowed_front old v n inside })

pub layers_stay : (ls : List (Vec ℕ Global)) → KeepsLayers ls ls
layers_stay ls = record { more = omega arith; same = λ n inside. refl }

pub layers_trans : (a b c : List (Vec ℕ Global)) → KeepsLayers a b → KeepsLayers b c → KeepsLayers a c
layers_trans a b c h k = record {
  more = let x = h.more in let y = k.more in omega arith;
  same = λ n inside. k.same n (let x = h.more in omega arith) ∙ h.same n inside;
}
