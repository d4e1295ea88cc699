-- What is seen, which ids there are and which lines, where one command more is written.
use Rattle.std.proofs.Common.{◌≡◌, ◌+◌, ℕ, zero, suc, List, [], ◌∷◌, ◌++◌, map, slice_get, slice_index, Some, All, Contains, sym, ◌∙◌, ap, subst, arith}
use Rattle.std.proofs.lemmas.List.{append_assoc, append-nil, map-append, length-append}
use Rattle.rule_model.specs.Proofs.{Step, ProofItems, no_items, with_assume, with_step, with_subproof}
use Rattle.rule_model.specs.Scopes.{Anchor, Nesting, inside, commands_in, first_index}
use Rattle.rule_model.specs.Visibility.{Sight, sight, direct, seen_around, visible, visible_ids}
use Rattle.std.proofs.Math.ListN.{get_or-append}

joined_more : {X Y : Type 0} (f : X → Y) (xs ys : List X) (x : X) → map f (xs ++ (ys ++ x ∷ [])) ≡ map f (xs ++ ys) ++ f x ∷ []
joined_more f xs ys x = ap (map f) (sym (append_assoc xs ys (x ∷ []))) ∙ map-append f (xs ++ ys) (x ∷ [])

module _ (n : Nesting ℕ ℕ) (items : ProofItems ℕ ℕ) where
  pub visible_assume : (id : List ℕ) (t : ℕ) → visible n (with_assume items id t) ≡ visible n items ++ (first_index n + commands_in items) ∷ []
  visible_assume id t =
      joined_more (λ (s : Sight). s.index) (seen_around n) (direct n items) (sight (first_index n + commands_in items) id)

  pub visible_step : (s : Step ℕ) → visible n (with_step items s) ≡ visible n items ++ (first_index n + commands_in items) ∷ []
  visible_step s =
      joined_more (λ (s : Sight). s.index) (seen_around n) (direct n items) (sight (first_index n + commands_in items) s.id)

  pub visible_subproof : (bs : List (ℕ × ℕ)) (p : ProofItems ℕ ℕ) (s : Step ℕ) → visible n (with_subproof items bs p s) ≡ visible n items ++ (first_index n + (commands_in items + commands_in p)) ∷ []
  visible_subproof bs p s =
      joined_more (λ (s : Sight). s.index) (seen_around n) (direct n items) (sight (first_index n + (commands_in items + commands_in p)) s.id)

  pub ids_assume : (id : List ℕ) (t : ℕ) → visible_ids n (with_assume items id t) ≡ visible_ids n items ++ id ∷ []
  ids_assume id t = joined_more (λ (s : Sight). s.id) (seen_around n) (direct n items) (sight (first_index n + commands_in items) id)

  pub ids_step : (s : Step ℕ) → visible_ids n (with_step items s) ≡ visible_ids n items ++ s.id ∷ []
  ids_step s = joined_more (λ (s : Sight). s.id) (seen_around n) (direct n items) (sight (first_index n + commands_in items) s.id)

  pub ids_subproof : (bs : List (ℕ × ℕ)) (p : ProofItems ℕ ℕ) (s : Step ℕ) → visible_ids n (with_subproof items bs p s) ≡ visible_ids n items ++ s.id ∷ []
  ids_subproof bs p s =
      joined_more (λ (s : Sight). s.id) (seen_around n) (direct n items) (sight (first_index n + (commands_in items + commands_in p)) s.id)

module _ (around : Nesting ℕ ℕ) (before : ProofItems ℕ ℕ) (anchor : Anchor ℕ ℕ) where
  pub visible_opened : visible (inside around before anchor) no_items ≡ visible around before
  visible_opened = ap (map (λ (s : Sight). s.index)) (append-nil (seen_around around ++ direct around before))

  pub ids_opened : visible_ids (inside around before anchor) no_items ≡ visible_ids around before
  ids_opened = ap (map (λ (s : Sight). s.id)) (append-nil (seen_around around ++ direct around before))

  pub ids_inside : (items : ProofItems ℕ ℕ) → visible_ids (inside around before anchor) items ≡ visible_ids around before ++ map (λ (s : Sight). s.id) (direct (inside around before anchor) items)
  ids_inside items = map-append (λ (s : Sight). s.id) (seen_around around ++ direct around before) (direct (inside around before anchor) items)

-- what holds of joined lists holds of the first
pub all_left : {X : Type 0} (P : X → Type 0) (xs ys : List X) → All P (xs ++ ys) → All P xs
all_left P xs ys h k d less =
    subst P (get_or-append xs ys d k less)
    (h k d (let n = length-append xs ys in omega arith))

pub contains_left : {X : Type 0} (xs ys : List X) (x : X) → Contains xs x → Contains (xs ++ ys) x
contains_left xs ys x (k, h, e) =
    (k, let n = length-append xs ys in omega arith, get_or-append xs ys x k h ∙ e)

pub index_of_get : (xs : List ℕ) (k x : ℕ) → slice_get xs k ≡ Some x → slice_index xs k ≡ x
index_of_get [] k x e = absurd (cc)
index_of_get (y ∷ xs) zero x e = cc
index_of_get (y ∷ xs) (suc k) x e = index_of_get xs k x e
