-- The images of the variables that open anchors bind, those of the outermost one first: they put in the same.
use Rattle.std.proofs.Common.{◌≡◌, ◌⊎◌, inl, inr, ℕ, List, [], ◌∷◌, ◌++◌, map, Bool, true, false, ◌||◌, cond, refl, sym, ap, subst, ◌∙◌}
use Rattle.std.specs.Str.{bytes_eq}
use Rattle.std.specs.List.{AllByRecursion}
use Rattle.std.proofs.lemmas.Slice.Eq.{bytes_eq-Decides}
use Rattle.term_model.specs.Terms.{Var, var_eq, Term}
use Rattle.term_model.proofs.Basics.{else_branch}
use Rattle.term_model.proofs.Tests.{var_eq_decides}
use Rattle.rule_model.specs.Contexts.{put_in_each, images}
use Rattle.rule_model.specs.Judged.{open_anchors}
use Rattle.rule_model.specs.Replacement.{Replacement, replaced_by}
use Rattle.rule_model.specs.Scopes.{Nesting, outermost, inside}
use Rattle.rule_model.specs.Substitution.{put_in, Replaces}
use Rattle.rule_model.proofs.Substituting.{replaces-cases, term_at-none, put_in_agrees}
use Rattle.problem_text.specs.Words.{is_among}
use Rattle.alethe_text.specs.Anchors.{bound_names, image_of}
use Rattle.alethe_reader.specs.Bound.{images_in, BindApart}
use Rattle.alethe_reader.proofs.BoundLemmas.{images_named}

-- one replacement behind another
at_back : (p q : Replacement) (x : Var) → ¬ Replaces p x → replaced_by (p ++ q) x ≡ replaced_by q x
at_back [] q x n = refl
at_back (b ∷ p) q x n = else_branch (var_eq b.0 x) b.1 (replaced_by (p ++ q) x) (λ e. n (inl ((var_eq_decides b.0 x).0 e))) ∙ at_back p q x (λ h. n (inr h))

at_front : (p q : Replacement) (x : Var) → Replaces p x → replaced_by (p ++ q) x ≡ replaced_by p x
at_front [] q x h = absurd h
at_front (b ∷ p) q x h = go (var_eq b.0 x) refl (at_front p q x)
  where
    later : var_eq b.0 x ≡ false → (b.0 ≡ x) ⊎ Replaces p x → Replaces p x
    later e (inl same) = absurd (let f = (var_eq_decides b.0 x).1 same in cc)
    later e (inr k) = k

    go : (c : Bool) → var_eq b.0 x ≡ c → (Replaces p x → replaced_by (p ++ q) x ≡ replaced_by p x) → cond c b.1 (replaced_by (p ++ q) x) ≡ cond c b.1 (replaced_by p x)
    go true e k = refl
    go false e k = k (later e h)

-- what is replaced has a name
replaced_named : (q : Replacement) (x : Var) → Replaces q x → is_among (map (λ b. b.0.name) q) x.name ≡ true
replaced_named [] x h = absurd h
replaced_named (b ∷ q) x (inl same) =
    ap (λ c. c || is_among (map (λ b. b.0.name) q) x.name) ((bytes_eq-Decides x.name b.0.name).1 (ap (λ (y : Var). y.name) (sym same)))
replaced_named (b ∷ q) x (inr h) = go (bytes_eq x.name b.0.name) (replaced_named q x h)
  where
    go : (c : Bool) → is_among (map (λ b. b.0.name) q) x.name ≡ true → (c || is_among (map (λ b. b.0.name) q) x.name) ≡ true
    go true e = refl
    go false e = e

-- no variable of the anchor has a name of these
others_replaced : (names : List (List ℕ)) (q bs : Replacement) (x : Var) → AllByRecursion (λ b. is_among names b.0.name ≡ false) bs → is_among names x.name ≡ true → ¬ Replaces (put_in_each q bs) x
others_replaced names q [] x h e r = r
others_replaced names q (b ∷ bs) x h e (inl same) = absurd (let f = ap (λ (y : Var). is_among names y.name) same in let g = h.0 in cc)
others_replaced names q (b ∷ bs) x h e (inr r) = others_replaced names q bs x h.1 e r

-- what is put in for a variable
swapped : (a b e : Replacement) (x : Var) → replaced_by a x ≡ replaced_by b x → (Replaces a x → ¬ Replaces e x) → replaced_by (a ++ e) x ≡ replaced_by (e ++ b) x
swapped a b e x same apart = go (replaces-cases a x) (replaces-cases e x)
  where
    go : Replaces a x ⊎ (¬ Replaces a x) → Replaces e x ⊎ (¬ Replaces e x) → replaced_by (a ++ e) x ≡ replaced_by (e ++ b) x
    go (inl r) k = at_front a e x r ∙ (same ∙ sym (at_back e b x (apart r)))
    go (inr n) (inl r) = at_back a e x n ∙ sym (at_front e b x r)
    go (inr n) (inr m) = at_back a e x n ∙ (term_at-none e x m ∙ (sym (term_at-none a x n) ∙ (same ∙ sym (at_back e b x m))))

same_images : (n : Nesting Var Term) → BindApart n → (x : Var) → replaced_by (images_in n) x ≡ replaced_by (images (open_anchors n)) x
same_images outermost h x = refl
same_images (inside around before anchor) h x =
    swapped (images_in around) (images (open_anchors around)) (put_in_each (images (open_anchors around)) anchor.bindings) x (same_images around h.0 x)
    (λ r. others_replaced (bound_names around) (images (open_anchors around)) anchor.bindings x h.1
    (subst (λ ns. is_among ns x.name ≡ true) (images_named around) (replaced_named (images_in around) x r)))

pub image_same : (n : Nesting Var Term) (t : Term) → BindApart n → put_in (images_in n) t ≡ image_of n t
image_same n t h = put_in_agrees t (images_in n) (images (open_anchors n)) (λ x free. same_images n h x)
