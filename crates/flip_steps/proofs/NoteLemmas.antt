-- Private. One form more is remembered.
use Rattle.std.proofs.Common.{◌≡◌, ◌≢◌, ◌<◌, ◌≤◌, ◌^◌, ◌⊎◌, inl, inr, ℕ, Bool, true, false, List, Option, Some, None, nat_lt, nat_eq, if◌then◌else◌}
use Rattle.std.proofs.Common.{refl, sym, ◌∙◌, subst, arith}
use Rattle.std.proofs.lemmas.Bool.{eqb-true}
use Rattle.std.specs.HashMap.{get}
use Rattle.proof_store.specs.AddedSteps.{AddedStep}
use Rattle.sym_table.specs.Table.{Table}
use Rattle.term_pool.specs.Views.{TermsView}
use Rattle.equality_steps.specs.declared.site.Site.{Site}
use Rattle.flip_steps.specs.declared.forms.Formed.{Formed}
use Rattle.flip_steps.specs.declared.forms.Forms.{Forms}
use Rattle.flip_steps.specs.Memory.{AreForms, IsCellWithin, IsFormedAs, IsRemembered, IsRememberedAs}
use Rattle.flip_steps.specs.Remembering.{IsSettled, Notes, alone, found_in}
use Rattle.flip_steps.specs.Stages.{StandsIn}
use Rattle.flip_steps.specs.Walks.{MeetsFrom}

-- two references are one or not
pub one_or_not : (q r : ℕ) → (q ≡ r) ⊎ (q ≢ r)
one_or_not q r = go (nat_eq q r) refl
  where
    go : (b : Bool) → nat_eq q r ≡ b → (q ≡ r) ⊎ (q ≢ r)
    go true e = inl (eqb-true q r e)
    go false e = inr (λ same. let apart : q ≢ r = grind arith in apart same)

found_cell : (forms : Forms) (r : ℕ) → 2 ^ 30 ≤ r → found_in forms r ≡ get nat_eq forms.formed r
found_cell forms r high = go (nat_lt r (2 ^ 30)) refl
  where
    go : (b : Bool) → nat_lt r (2 ^ 30) ≡ b → (if b then Some (alone r) else get nat_eq forms.formed r) ≡ get nat_eq forms.formed r
    go true e = let low : r < 2 ^ 30 = grind arith in absurd (omega (arith, low, high))
    go false e = refl

found_other : (old new : Forms) (q : ℕ) → get nat_eq new.formed q ≡ get nat_eq old.formed q → found_in new q ≡ found_in old q
found_other old new q e = go (nat_lt q (2 ^ 30))
  where
    go : (b : Bool) → (if b then Some (alone q) else get nat_eq new.formed q) ≡ (if b then Some (alone q) else get nat_eq old.formed q)
    go true = refl
    go false = e

pub no_settled : (forms : Forms) (r : ℕ) → found_in forms r ≡ None → IsSettled forms r → ⊥
no_settled forms r e h = let f : None ≡ Some h.formed = sym e ∙ h.is in absurd cc

pub none_found : (forms : Forms) (r : ℕ) → (IsSettled forms r → ⊥) → found_in forms r ≡ None
none_found forms r h = go (found_in forms r) refl
  where
    go : (o : Option Formed) → found_in forms r ≡ o → found_in forms r ≡ None
    go None e = e
    go (Some x) e = absurd (h (record { formed = x; is = e }))

module _ (old new : Forms) (r : ℕ) (x : Formed) (notes : Notes old new r x) where
  pub settled_here : IsSettled new r
  settled_here = record { formed = x; is = found_cell new r notes.cell ∙ notes.here }

  pub settled_stays : (q : ℕ) → IsSettled old q → IsSettled new q
  settled_stays q h = go (one_or_not q r)
    where
      go : (q ≡ r) ⊎ (q ≢ r) → IsSettled new q
      go (inl e) = subst (IsSettled new) (sym e) settled_here
      go (inr apart) = record { formed = h.formed; is = found_other old new q (notes.others q apart) ∙ h.is }

  pub settled_only : (q : ℕ) → IsSettled new q → IsSettled old q ⊎ (q ≡ r)
  settled_only q h = go (one_or_not q r)
    where
      go : (q ≡ r) ⊎ (q ≢ r) → IsSettled old q ⊎ (q ≡ r)
      go (inl e) = inr e
      go (inr apart) = inl (record { formed = h.formed; is = sym (found_other old new q (notes.others q apart)) ∙ h.is })

  pub forms_noted : (p : Site) (v : TermsView) (steps : List AddedStep) → AreForms p v steps old → IsFormedAs p v steps r x → AreForms p v steps new
  forms_noted p v steps right formed q y found = go (one_or_not q r)
    where
      go : (q ≡ r) ⊎ (q ≢ r) → IsFormedAs p v steps q y
      go (inr apart) = right q y (sym (notes.others q apart) ∙ found)
      go (inl e) =
          let here : Some x ≡ Some y = sym notes.here ∙ subst (λ z. IsRememberedAs new z y) e found in
          let same : x ≡ y = cc in
          subst (IsFormedAs p v steps q) same (subst (λ z. IsFormedAs p v steps z x) (sym e) formed)

  pub met_noted : (s : Table) (v : TermsView) (root : ℕ) (before : Forms) → StandsIn s v root r → MeetsFrom s v root before old → MeetsFrom s v root before new
  met_noted s v root before stands met q h = go (one_or_not q r)
    where
      go : (q ≡ r) ⊎ (q ≢ r) → IsRemembered before q ⊎ IsCellWithin s v root q
      go (inl e) = inr (subst (IsCellWithin s v root) (sym e) (record { cell = notes.cell; stands = stands }))
      go (inr apart) = met q (record { formed = h.formed; is = sym (notes.others q apart) ∙ h.is })
