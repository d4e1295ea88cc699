-- One more image of a variable that an anchor binds.
use Rattle.std.proofs.Common.{◌≡◌, ◌<◌, ◌+◌, ◌++◌, ℕ, List, [], ◌∷◌, length, get_or, take, refl}
use Rattle.std.specs.List.{AllZip}
use Rattle.contexts.specs.declared.kept.Substitution.{Substitution}
use Rattle.contexts.specs.Kept.{all_bindings, frames_of}
use Rattle.contexts.specs.PutIn.{StandForReplacement}
use Rattle.term_pool.specs.Placing.{PlacesTerm, LacksRoomFor, PlacesCellsOf, LacksCellOf}
use Rattle.term_pool.specs.Bindings.{IsBindingOf}
use Rattle.rule_model.specs.Contexts.{put_in_each}
use Rattle.rule_model.specs.Replacement.{Replacement}
use Rattle.rule_model.specs.Substitution.{put_in}
use Rattle.sym_table.specs.Table.{Table}
use Rattle.term_model.specs.Terms.{Var, Term}
use Rattle.term_pool.specs.Views.{TermsView, KeepsTerms}
use Rattle.proof_contexts.specs.Images.{IsImageIn}
use Rattle.proof_contexts.proofs.ImageLists.{binding_later, next_of, images_more}
use Rattle.proof_contexts.proofs.Levels.{BindingsStay, stand_later}
use Rattle.term_pool.proofs.PlacedCells.{places_of_term, places_more_then, lacks_for_term}

-- v is what is known before the first image, w before this one and z after it; x and y are the substitution then
module _ (stay : BindingsStay) (s : Table) (v w z : TermsView) (x y : Substitution) (keeps : KeepsTerms v w) (same : frames_of y ≡ frames_of x) (anchor : List (ℕ × ℕ)) (i : ℕ) (b : ℕ × ℕ) (inside : i < length anchor) (is : b ≡ get_or anchor i b) where
  pub images_next : KeepsTerms w z → (list : List (ℕ × ℕ)) (image : ℕ × ℕ) → ((q : Replacement) (c : Var × Term) → StandForReplacement s w (all_bindings y) q → IsBindingOf s w b c → IsBindingOf s z image (c.0, put_in q c.1)) → ((q : Replacement) (bound : List (Var × Term)) → StandForReplacement s v (all_bindings x) q → AllZip (IsBindingOf s v) anchor bound → AllZip (IsBindingOf s w) list (put_in_each q (take i bound))) → (q : Replacement) (bound : List (Var × Term)) → StandForReplacement s v (all_bindings x) q → AllZip (IsBindingOf s v) anchor bound → AllZip (IsBindingOf s z) (list ++ image ∷ []) (put_in_each q (take (i + 1) bound))
  images_next more list image made before q bound stand zip =
      let n = next_of s v anchor bound i b zip inside is in
      images_more s w z more list image q bound i n.of n.more (before q bound stand zip)
      (made q n.of (stand_later stay s v w x y keeps same q stand) (binding_later s v w keeps b n.of n.is))

  pub placed_next : KeepsTerms w z → ((q : Replacement) (c : Var × Term) → StandForReplacement s w (all_bindings y) q → IsBindingOf s w b c → PlacesTerm s w.pass z.pass (put_in q c.1)) → ((q : Replacement) (bound : List (Var × Term)) → StandForReplacement s v (all_bindings x) q → AllZip (IsBindingOf s v) anchor bound → PlacesCellsOf s v.pass w.pass (IsImageIn q bound)) → (q : Replacement) (bound : List (Var × Term)) → StandForReplacement s v (all_bindings x) q → AllZip (IsBindingOf s v) anchor bound → PlacesCellsOf s v.pass z.pass (IsImageIn q bound)
  placed_next more made before q bound stand zip =
      let n = next_of s v anchor bound i b zip inside is in
      places_more_then s v.pass w.pass z.pass (IsImageIn q bound) more.pass (before q bound stand zip)
      (places_of_term s w.pass z.pass (IsImageIn q bound) (put_in q n.of.1) (record { at = i; binding = n.of; there = n.there; is = refl })
      (made q n.of (stand_later stay s v w x y keeps same q stand) (binding_later s v w keeps b n.of n.is)))

  pub lacks_next : ((q : Replacement) (c : Var × Term) → StandForReplacement s w (all_bindings y) q → IsBindingOf s w b c → LacksRoomFor s z.pass (put_in q c.1)) → (q : Replacement) (bound : List (Var × Term)) → StandForReplacement s v (all_bindings x) q → AllZip (IsBindingOf s v) anchor bound → LacksCellOf s z.pass (IsImageIn q bound)
  lacks_next made q bound stand zip =
      let n = next_of s v anchor bound i b zip inside is in
      lacks_for_term s z.pass (IsImageIn q bound) (put_in q n.of.1) (record { at = i; binding = n.of; there = n.there; is = refl })
      (made q n.of (stand_later stay s v w x y keeps same q stand) (binding_later s v w keeps b n.of n.is))
