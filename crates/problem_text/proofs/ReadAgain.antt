-- Cited by crates above. What was read of a list once is read of it again, where names say the same.
use Rattle.std.proofs.Common.{◌≡◌, ℕ, List, Result, Ok, Err, refl, sym, ap, ◌∙◌, subst}
use Rattle.std.specs.Prelude.{slice_range}
use Rattle.sexpr.specs.declared.causes.Refusal.{Refusal}
use Rattle.sexpr.specs.Items.{Items, list}
use Rattle.sexpr.specs.Spans.{AreAlike, IsListAt}
use Rattle.sexpr.proofs.MovedItems.{lists_by_bytes}
use Rattle.problem_text.specs.Alike.{result_unplaced, SayTheSame, EndAlike}
use Rattle.problem_text.specs.Names.{Place}
use Rattle.problem_text.specs.Outcomes.{Outcome, done}
use Rattle.problem_text.specs.Remembered.{IsReadTo, StandFor}
use Rattle.problem_text.specs.Scripts.{Script}
use Rattle.problem_text.specs.Terms.{read_term}
use Rattle.problem_text.specs.TypedTerms.{Typed}
use Rattle.problem_text.proofs.AlikeTerms.{read_alike}

-- a reading that ends like one that is done is done
done_too : {A : Type 0} (a : A) (last : Script) (o : Outcome Script A) → EndAlike (done a last) o → o ≡ done a o.state
done_too {A} a last o h = go o.result refl
  where
    go : (r : Result A Refusal) → o.result ≡ r → o ≡ done a o.state
    go (Ok b) e =
        let f : Ok a ≡ Ok b = h.results ∙ ap result_unplaced e in
        let g : o.result ≡ Ok a = e ∙ sym f in
        (λ i. record { result = g i; state = o.state })
    go (Err r) e = let f : Ok a ≡ Err (record r { at = 0 }) = h.results ∙ ap result_unplaced e in absurd (cc)

read_to_alike : (p : Place) (s u : Script) (at to : ℕ) (is js : Items) (t : Typed) → AreAlike (list at is) (list to js) → SayTheSame s u
    → IsReadTo p s at is t → IsReadTo p u to js t
read_to_alike p s u at to is js t alike same h =
    let both = read_alike (list at is) (list to js) p s u alike same in
    let ends : EndAlike (done t h.last) (read_term (list to js) p u) = subst (λ o. EndAlike o (read_term (list to js) p u)) h.is both in
    record {
      last = (read_term (list to js) p u).state;
      is = done_too t h.last (read_term (list to js) p u) ends;
      same = sym same ∙ h.same ∙ ends.states;
    }

-- A list that was read once, and gave no name.
pub remembered : (p : Place) (s : Script) (text : List ℕ) (at end : ℕ) (items : Items) (t : Typed) (h : IsReadTo p s at items t)
    → IsListAt text at end items → StandFor p h.last (slice_range text at end) t
remembered p s text at end items t h there other to stop js k bytes =
    read_to_alike p s h.last at to items js t (lists_by_bytes text other at end to stop items js there k (sym bytes)) h.same h

-- It stays so where names stay what they are.
pub stand_for_stays : (p : Place) (s u : Script) (bytes : List ℕ) (t : Typed) → SayTheSame s u → StandFor p s bytes t → StandFor p u bytes t
stand_for_stays p s u bytes t same h text at end items k e = read_to_alike p s u at at items items t refl same (h text at end items k e)
