-- Steps are added one by one, and nothing is written at first.
use Rattle.std.proofs.Common.{◌≡◌, ◌<◌, ◌+◌, ◌-◌, ◌^◌, ℕ, zero, suc, List, [], ◌∷◌, ◌++◌, length, take, slice_get, slice_index_or, Some, refl, sym, ◌∙◌, ap, subst, arith, inr}
use Rattle.std.proofs.lemmas.List.{length-take-le, take_more}
use Rattle.std.proofs.lemmas.List.Elements.{All-nil}
use Rattle.proof_store.specs.AddedSteps.{AddedStep}
use Rattle.rule_model.specs.Elaboration.{nothing_kept}
use Rattle.rule_model.specs.Scopes.{outermost, Scope, next_index}
use Rattle.rule_model.specs.Writing.{unwritten}
use Rattle.elaborator.specs.declared.putting.Opened.{Opened}
use Rattle.elaborator.specs.Reached.{State, one_more, with_added, IsTidy, MayAddNow, MayAddHere, IsExtended, Job, IsReached}
use Rattle.elaborator.proofs.Extending.{may_now, extended_more}

pub get_is : {X : Type 0} (xs : List X) (k : ℕ) (x : X) → k < length xs → x ≡ slice_index_or xs k x → slice_get xs k ≡ Some x
get_is [] k x less e = absurd (omega arith)
get_is (y ∷ xs) zero x less e = ap Some (sym e)
get_is (y ∷ xs) (suc k) x less e = get_is xs k x (omega arith) e

module _ (added : List AddedStep) (k : ℕ) (a : AddedStep) (s t : State) (ext : IsExtended (take k added) s t) (tidy : IsTidy s)
    (less : k < length added) (is : a ≡ slice_index_or added k a)
    (may : (m : ℕ) (b : AddedStep) → slice_get added m ≡ Some b → MayAddHere s m b) (few : next_index s.builder + length added < 2 ^ 32 - 1) where
  taken : length (take k added) ≡ k
  taken = length-take-le k added (omega arith)

  may_here : MayAddHere s (length (take k added)) a
  may_here = subst (λ n. MayAddHere s n a) (sym taken) (may k a (get_is added k a less is))

  pub add_may : MayAddNow t s.count a
  add_may =
      subst (λ n. MayAddNow t n a) (sym tidy.count)
      (may_now (take k added) a s t ext (let c = ext.count in let l = taken in omega arith) may_here)

  pub add_next : (u : State) → u ≡ one_more (with_added t s.count a) t → IsExtended (take (k + 1) added) s u
  add_next u same =
      subst (λ xs. IsExtended xs s u) (sym (take_more added k a less ∙ ap (λ x. take k added ++ x ∷ []) (sym is)))
      (extended_more (take k added) a s t u ext may_here (let c = ext.count in let l = taken in omega arith)
      (subst (λ n. u ≡ one_more (with_added t n a) t) tidy.count same))

-- nothing is written
nothing_yet : (job : Job) (o : Opened) → IsReached job unwritten (record { builder = unwritten; places = []; opened = o ∷ []; count = 0 })
nothing_yet job o = record {
  tidy = record {
    count = omega arith;
    scopes = omega arith;
    few = omega arith;
    ids = All-nil _;
    open_ids = All-nil _;
  };
  around = tt;
  level = record { keeps = λ c. nothing_kept outermost outermost; sees = All-nil _; assumes = inr refl; last = tt };
  places = omega arith;
  opened = omega arith;
  number = refl;
  order = λ i j p q less e f. absurd (cc);
  told = λ j p e. absurd (cc);
  sources = λ k line e. absurd (cc);
  room = refl;
}

pub nothing_reached : (job : Job) (b : Scope ℕ ℕ) (ps : List ℕ) (os : List Opened) (o : Opened) → b ≡ unwritten → ps ≡ [] → os ≡ o ∷ []
    → IsReached job unwritten (record { builder = b; places = ps; opened = os; count = 0 })
nothing_reached job b ps os o eb ep eo =
    subst (λ x. IsReached job unwritten (record { builder = x; places = ps; opened = os; count = 0 })) (sym eb)
    (subst (λ x. IsReached job unwritten (record { builder = unwritten; places = x; opened = os; count = 0 })) (sym ep)
    (subst (λ x. IsReached job unwritten (record { builder = unwritten; places = []; opened = x; count = 0 })) (sym eo) (nothing_yet job o)))
