-- Private. Links of arguments, as far as these have been linked.
use Rattle.std.proofs.Common.{◌≡◌, ◌<◌, ◌≤◌, ◌+◌, ◌*◌, ℕ, List, [], ◌∷◌, ◌++◌, length, get_or, take, Option, Ok, refl, sym, ◌∙◌, ap, subst, arith}
use Rattle.std.proofs.lemmas.List.{take_all, take_more}
use Rattle.std.specs.List.{AllZip}
use Rattle.std.specs.Option.{option_to_list}
use Rattle.term_model.proofs.Zips.{zip_at, zip_length}
use Rattle.term_pool.specs.Views.{TermsView}
use Rattle.proof_store.specs.declared.added.Link.{Link}
use Rattle.equality_steps.specs.declared.site.Site.{Site}
use Rattle.flip_steps.specs.Memory.{IsEquatedBy}
use Rattle.elab_equality.specs.declared.work.Work.{Work}
use Rattle.elab_equality.specs.Linked.{AreLinkedBy, IsPair}
use Rattle.elab_equality.specs.Work.{IsDone, IsWork}
use Rattle.elab_equality.proofs.LinkLemmas.{linked_later, linked_more, pair_later}
use Rattle.elab_equality.proofs.WorkLemmas.{done_none, done_then}

pub record IsLinking (p : Site) (u v : TermsView) (old new : Work) (lefts rights : List ℕ) (place : ℕ) (links : List Link) : Type 0 where
  pub done : IsDone {X = ℕ} p u v old new (2 * place) (Ok 0)
  pub linked : AreLinkedBy p v new.block (take place lefts) (take place rights) links

pub linking_none : (p : Site) (v : TermsView) (a : Work) (lefts rights : List ℕ) → IsWork p v a → IsLinking p v v a a lefts rights 0 []
linking_none p v a lefts rights h = record { done = done_none p v a (2 * 0) 0 h; linked = refl }

module _ (p : Site) (u : TermsView) (lefts rights : List ℕ) (pairs : AllZip (IsPair p u) lefts rights) (place : ℕ) (below : place < length lefts) where
  pub right_below : place < length rights
  right_below = let same = zip_length (IsPair p u) lefts rights pairs in omega (arith, same, below)

  pub pair_at : (v : TermsView) (old new : Work) (links : List Link) (a b : ℕ) → IsLinking p u v old new lefts rights place links → a ≡ get_or lefts place a
      → b ≡ get_or rights place b → IsPair p v a b
  pair_at v old new links a b h left right =
      pair_later p u v h.done.keeps a b
      (subst (λ x. IsPair p u x b) (sym left) (subst (λ y. IsPair p u (get_or lefts place a) y) (sym right) (zip_at (IsPair p u) lefts rights place a b pairs below)))

  pub linking_more : (v w : TermsView) (old mid new : Work) (links : List Link) (a b : ℕ) (o : Option Link) → IsLinking p u v old mid lefts rights place links
      → a ≡ get_or lefts place a → b ≡ get_or rights place b → IsDone p v w mid new 2 (Ok o) → IsEquatedBy p w new.block o a b
      → IsLinking p u w old new lefts rights (place + 1) (links ++ option_to_list o)
  linking_more v w old mid new links a b o h left right done said = record {
    done = done_value (done_then {x = 0} {r = Ok o} (2 * (place + 1)) (omega arith) h.done done);
    linked =
        let first : take (place + 1) lefts ≡ take place lefts ++ a ∷ [] = take_more lefts place a below ∙ ap (λ x. take place lefts ++ x ∷ []) (sym left) in
        let second : take (place + 1) rights ≡ take place rights ++ b ∷ [] = take_more rights place b right_below ∙ ap (λ x. take place rights ++ x ∷ []) (sym right) in
        subst (λ xs. AreLinkedBy p w new.block xs (take (place + 1) rights) (links ++ option_to_list o)) (sym first)
        (subst (λ ys. AreLinkedBy p w new.block (take place lefts ++ a ∷ []) ys (links ++ option_to_list o)) (sym second)
        (linked_more p w new.block (take place lefts) (take place rights) links a b o
        (linked_later p v w mid.block new.block done.keeps done.moved.more (take place lefts) (take place rights) links h.linked) said));
  }
    where
      done_value : IsDone p u w old new (2 * (place + 1)) (Ok o) → IsDone {X = ℕ} p u w old new (2 * (place + 1)) (Ok 0)
      done_value k = record { keeps = k.keeps; placed = k.placed; full = tt; moved = k.moved }

-- all places are linked
pub linking_end : (p : Site) (u v : TermsView) (old new : Work) (lefts rights : List ℕ) (place : ℕ) (links : List Link) → AllZip (IsPair p u) lefts rights
    → length lefts ≤ place → IsLinking p u v old new lefts rights place links → AreLinkedBy p v new.block lefts rights links
linking_end p u v old new lefts rights place links pairs whole h =
    let same = zip_length (IsPair p u) lefts rights pairs in
    subst (λ xs. AreLinkedBy p v new.block xs rights links) (take_all place lefts whole)
    (subst (λ ys. AreLinkedBy p v new.block (take place lefts) ys links) (take_all place rights (omega (arith, whole, same))) h.linked)
