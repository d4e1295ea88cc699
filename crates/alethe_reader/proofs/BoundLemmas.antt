-- The names and the images of the variables that open anchors bind.
use Rattle.std.proofs.Common.{◌≡◌, ◌≤◌, ◌+◌, ◌-◌, ℕ, zero, suc, List, [], ◌∷◌, ◌++◌, map, length, take, slice_get, Bool, true, false, ◌||◌, Option, Some, None, is_some, refl, sym, ap, subst, ◌∙◌, arith}
use Rattle.std.specs.Str.{bytes_eq}
use Rattle.std.specs.List.{AllZip}
use Rattle.std.proofs.lemmas.List.{length-append, length-map, map-append, take_at, take-map}
use Rattle.std.proofs.lemmas.Slice.Eq.{bytes_eq-Decides}
use Rattle.std.proofs.lemmas.Slice.Zip.{AllZip-long}
use Rattle.sym_table.specs.Table.{Table}
use Rattle.term_model.specs.Terms.{Var, Term}
use Rattle.term_pool.specs.Views.{TermsView}
use Rattle.rule_model.specs.Contexts.{put_in_each, images}
use Rattle.rule_model.specs.Judged.{open_anchors}
use Rattle.rule_model.specs.Proofs.{ProofItems}
use Rattle.rule_model.specs.Replacement.{Replacement}
use Rattle.rule_model.specs.Scopes.{Anchor, Nesting, outermost, inside, own_bindings}
use Rattle.rule_model.specs.Visibility.{open_bindings}
use Rattle.term_pool.specs.Bindings.{IsBindingOf}
use Rattle.problem_text.specs.Words.{is_among}
use Rattle.alethe_text.specs.Anchors.{bound_names}
use Rattle.alethe_reader.specs.Bound.{images_in, AreAnchorsBound}
use Rattle.alethe_reader.specs.Ids.{Used, IsUnused, IsIdFound}
use Rattle.alethe_reader.specs.declared.bound.BoundVariables.{BoundVariables}
use Rattle.alethe_reader.specs.declared.ids.Found.{Found}
use Rattle.term_expansion.specs.SymbolsAndTerms.{both}

-- names that are in use
pub used_among : (us : List Used) (name : List ℕ) (k : ℕ) (u : Used) → slice_get us k ≡ Some u → u.id ≡ name → is_among (map (λ u. u.id) us) name ≡ true
used_among [] name k u e same = absurd (cc)
used_among (v ∷ us) name zero u e same = ap (λ b. b || is_among (map (λ u. u.id) us) name) ((bytes_eq-Decides name v.id).1 (sym same ∙ sym (ap (λ (u : Used). u.id) (inner e))))
  where
    inner : Some v ≡ Some u → v ≡ u
    inner e = cc
used_among (v ∷ us) name (suc k) u e same = go (bytes_eq name v.id) (used_among us name k u e same)
  where
    go : (b : Bool) → is_among (map (λ u. u.id) us) name ≡ true → (b || is_among (map (λ u. u.id) us) name) ≡ true
    go true h = refl
    go false h = h

pub among_unused : (us : List Used) (name : List ℕ) → is_among (map (λ u. u.id) us) name ≡ false → IsUnused us name
among_unused us name h k u e same = absurd (let f = used_among us name k u e same in cc)

pub unused_among : (us : List Used) (name : List ℕ) → IsUnused us name → is_among (map (λ u. u.id) us) name ≡ false
unused_among [] name h = refl
unused_among (v ∷ us) name h = go (bytes_eq name v.id) refl (unused_among us name (λ k u e. h (suc k) u e))
  where
    go : (b : Bool) → bytes_eq name v.id ≡ b → is_among (map (λ u. u.id) us) name ≡ false → (b || is_among (map (λ u. u.id) us) name) ≡ false
    go true e f = absurd (h 0 v refl (sym ((bytes_eq-Decides name v.id).0 e)))
    go false e f = f

pub found_among : (us : List Used) (name : List ℕ) (o : Option Found) → IsIdFound us name o → is_some o ≡ is_among (map (λ u. u.id) us) name
found_among us name None h = sym (unused_among us name h)
found_among us name (Some f) h = sym (used_among us name f.place _ h.here refl)

-- lists in step
module _ {A B : Type 0} (R : A → B → Type 0) where
  pub zip_front : (xs : List A) (ys vs : List B) (n : ℕ) → n ≡ length ys → AllZip R xs (ys ++ vs) → AllZip R (take n xs) ys
  zip_front xs ys vs n e h = subst (λ k. AllZip R (take k xs) ys) (sym e) (go xs ys h)
    where
      nothing : (xs : List A) → AllZip R (take zero xs) []
      nothing xs = tt

      go : (xs : List A) (ys : List B) → AllZip R xs (ys ++ vs) → AllZip R (take (length ys) xs) ys
      go xs [] h = nothing xs
      go [] (y ∷ ys) h = absurd h
      go (x ∷ xs) (y ∷ ys) h = (h.0, go xs ys h.1)

-- as many images as variables, and of the same names
each_named : (q bs : Replacement) → map (λ b. b.0.name) (put_in_each q bs) ≡ map (λ b. b.0.name) bs
each_named q [] = refl
each_named q (b ∷ bs) = ap (λ ns. b.0.name ∷ ns) (each_named q bs)

pub images_named : (n : Nesting Var Term) → map (λ b. b.0.name) (images_in n) ≡ bound_names n
images_named outermost = refl
images_named (inside around before anchor) =
    map-append (λ b. b.0.name) (images_in around) (put_in_each (images (open_anchors around)) anchor.bindings)
    ∙ (joined (images_named around) (each_named (images (open_anchors around)) anchor.bindings)
    ∙ sym (map-append (λ b. b.0.name) (open_bindings around) anchor.bindings))
  where
    joined : {a b c d : List (List ℕ)} → a ≡ b → c ≡ d → a ++ c ≡ b ++ d
    joined e f = cc

pub images_many : (n : Nesting Var Term) → length (images_in n) ≡ length (bound_names n)
images_many n = sym (length-map (images_in n) (λ b. b.0.name)) ∙ ap (λ ns. length ns) (images_named n)

-- the scope of the innermost anchor is left
module _ (s : Table) (v : TermsView) (d : BoundVariables) where
  pub bound_many : (around : Nesting Var Term) (before : ProofItems Var Term) (anchor : Anchor Var Term) → AreAnchorsBound (both s v) d (inside around before anchor)
      → length d.images.items ≡ length (images_in around) + length anchor.bindings
  bound_many around before anchor h =
      sym (AllZip-long (IsBindingOf s v) d.images.items (images_in (inside around before anchor)) h.images)
      ∙ (length-append (images_in around) (put_in_each (images (open_anchors around)) anchor.bindings)
      ∙ ap (λ n. length (images_in around) + n) (length-map anchor.bindings _))

  pub enough_bound : (n : Nesting Var Term) → AreAnchorsBound (both s v) d n → length (own_bindings n) ≤ length d.images.items
  enough_bound outermost h = omega arith
  enough_bound (inside around before anchor) h = omega (arith, bound_many around before anchor h)

  pub bound_left : (e : BoundVariables) (left : ℕ) (around : Nesting Var Term) (before : ProofItems Var Term) (anchor : Anchor Var Term)
      → left ≡ length d.images.items - length anchor.bindings → AreAnchorsBound (both s v) d (inside around before anchor)
      → e.names.used ≡ take left d.names.used → e.images.items ≡ take left d.images.items → AreAnchorsBound (both s v) e around
  bound_left e left around before anchor is h names same = record {
    names = ap (map (λ u. u.id)) names ∙ (sym (take-map (λ u. u.id) left d.names.used)
        ∙ (ap (take left) (h.names ∙ map-append (λ b. b.0.name) (open_bindings around) anchor.bindings)
        ∙ take_at (bound_names around) (map (λ b. b.0.name) anchor.bindings) left (sym (many ∙ images_many around))));
    images = subst (λ xs. AllZip (IsBindingOf s v) xs (images_in around)) (sym same)
        (zip_front (IsBindingOf s v) d.images.items (images_in around) (put_in_each (images (open_anchors around)) anchor.bindings) left many h.images);
    apart = h.apart.0;
  }
    where
      many : left ≡ length (images_in around)
      many = omega (arith, is, bound_many around before anchor h)
