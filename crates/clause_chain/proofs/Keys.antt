-- The derived `==` of terms with signs is equality, and what the table says after it was changed.
use Rattle.std.proofs.Common.{◌≡◌, ◌≢◌, ◌⊎◌, inl, inr, Bool, true, false, ℕ, List, Option, refl, sym, ap, Decides}
use Rattle.std.specs.Cmp.{booleans_Decides}
use Rattle.std.proofs.lemmas.Bool.Decides.{Decides-eqb, Decides-and}
use Rattle.clause_chain.specs.declared.signed_term.SignedTerm.{SignedTerm}
use Rattle.std.specs.HashMap.{HashMap}
use Rattle.std.specs.Map.{lookup}
use Rattle.clause_chain.specs.Places.{place_in}
use Rattle.clause_chain.specs.contracts.signed_term.SignedTermPartialEq.TheImpl as signed

abbrev pub of : ℕ → Bool → SignedTerm
of a m = record { term = a; negative = m }

pub Decides-signed : (x y : SignedTerm) → Decides ((signed.ghosts).eq x y) (x ≡ y)
Decides-signed x y =
    let both = Decides-and _ _ (Decides-eqb x.term y.term) (booleans_Decides x.negative y.negative) in (
      λ h. let e = both.0 h in same (x.term) (y.term) (x.negative) (y.negative) e.0 e.1,
      λ h. both.1
          (ap (λ (z : SignedTerm). z.term) h, ap (λ (z : SignedTerm). z.negative) h),
    )
  where
    same : (a b : ℕ) (m n : Bool) → a ≡ b → m ≡ n → of a m ≡ of b n
    same a b m n e f = rw (e, f) refl

pub signed_tells : (x y : SignedTerm) → (((signed.ghosts).eq x y ≡ true) × (x ≡ y)) ⊎ (((signed.ghosts).eq x y ≡ false) × (x ≢ y))
signed_tells x y = go ((signed.ghosts).eq x y) refl (Decides-signed x y)
  where
    go : (b : Bool) → (signed.ghosts).eq x y ≡ b → Decides b (x ≡ y)
        → (((signed.ghosts).eq x y ≡ true) × (x ≡ y)) ⊎ (((signed.ghosts).eq x y ≡ false) × (x ≢ y))
    go true h d = inl (h, d.0 refl)
    go false h d = inr (h, λ e. absurd (let f = d.1 e in cc))

pub differs : (x y : SignedTerm) → y ≢ x → (signed.ghosts).eq x y ≡ false
differs x y other = elim (signed_tells x y) [ inl same ↦ absurd (other (sym same.1)) | inr n ↦ n.0 ]

-- a table with the same entries says the same
pub same_entries : {S : Type 0} (m n : HashMap SignedTerm ℕ S) → n.entries ≡ m.entries → place_in n ≡ place_in m
same_entries m n e = ap {B = SignedTerm → Option ℕ} (λ (es : List (SignedTerm × ℕ)) (x : SignedTerm). lookup ((signed.ghosts).eq x) es) e
