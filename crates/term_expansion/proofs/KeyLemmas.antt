-- The lists by which it is remembered what terms have become, and of what lets give variables what is needed.
use Rattle.std.proofs.Common.{◌≡◌, ℕ, ◌+◌, ◌<◌, inl, inr, refl, sym, ◌∙◌, ap, subst, arith, List, [], ◌∷◌, ◌++◌, length, take, get_or, Some, None, nat_eq, Contains}
use Rattle.std.specs.HashMap.{get}
use Rattle.std.proofs.lemmas.List.{take_more, length-append}
use Rattle.std.proofs.lemmas.List.Elements.{Contains-append_left, Contains-push, Contains-push_cases}
use Rattle.indexmap.proofs.SetLemmas.{AllZip-push}
use Rattle.term_expansion.specs.Assigned.{term_of}
use Rattle.term_expansion.specs.Expanding.{pairs_of, key_of, AreGiven, AreValuesGiven}
use Rattle.term_expansion.specs.Needs.{value_of, Values, AreValuesOf}
use Rattle.term_expansion.specs.declared.assignments.Assigned.{Assigned}
use Rattle.term_model.proofs.Zips.{zip_weaken}
use Rattle.term_model.proofs.Lists.{contains_none}

-- one pair more
pairs_of-push : (assigned : List Assigned) (leaves : List ℕ) (k : ℕ) → pairs_of assigned (leaves ++ k ∷ []) ≡ (pairs_of assigned leaves ++ k ∷ []) ++ term_of k assigned ∷ []
pairs_of-push assigned [] k = refl
pairs_of-push assigned (l ∷ leaves) k = ap (λ (ns : List ℕ). l ∷ term_of l assigned ∷ ns) (pairs_of-push assigned leaves k)

pub key-start : (key old : List ℕ) (assigned : List Assigned) (r number : ℕ) → old ≡ [] → key ≡ old ++ number ∷ [] → number ≡ r → key ≡ key_of r assigned []
key-start key old assigned r number none e f = e ∙ ap (λ (ns : List ℕ). ns ++ number ∷ []) none ∙ ap (λ (n : ℕ). n ∷ []) f

pub key-next : (key half new : List ℕ) (assigned : List Assigned) (r i n : ℕ) (leaves : List ℕ) → i < length leaves → key ≡ key_of r assigned (take i leaves) → half ≡ key ++ get_or leaves i 0 ∷ [] → new ≡ half ++ n ∷ [] → n ≡ term_of (get_or leaves i 0) assigned → new ≡ key_of r assigned (take (i + 1) leaves)
key-next key half new assigned r i n leaves l so_far e f number =
    f ∙ ap (λ (ns : List ℕ). ns ++ n ∷ []) (e ∙ ap (λ (ns : List ℕ). ns ++ get_or leaves i 0 ∷ []) so_far)
    ∙ ap (λ (m : ℕ). (key_of r assigned (take i leaves) ++ get_or leaves i 0 ∷ []) ++ m ∷ []) number
    ∙ ap (λ (ns : List ℕ). r ∷ ns) (sym (pairs_of-push assigned (take i leaves) (get_or leaves i 0)))
    ∙ ap (key_of r assigned) (sym (take_more leaves i 0 l))

-- one leaf more
are-more : (more leaves ks rs gs ps : List ℕ) → ((k : ℕ) → Contains leaves k → Contains more k) → AreGiven leaves ks rs gs ps → AreGiven more ks rs gs ps
are-more more leaves ks rs gs ps kept = zip_weaken _ _ (λ g p h. (kept g h.0, h.1)) gs ps

pub given-start : (ks rs gs ps : List ℕ) → gs ≡ [] → ps ≡ [] → AreValuesGiven [] ks rs gs ps
given-start ks rs gs ps e f =
    subst (λ (xs : List ℕ). AreValuesGiven [] ks rs xs ps) (sym e)
    (subst (λ (xs : List ℕ). AreValuesGiven [] ks rs [] xs) (sym f)
    (record { are = tt; all = λ k r c v. absurd (contains_none k c) }))

pub given-found : (leaves ks rs gs ps : List ℕ) (k r : ℕ) → value_of k ks rs ≡ Some r → AreValuesGiven leaves ks rs gs ps → AreValuesGiven (leaves ++ k ∷ []) ks rs (gs ++ k ∷ []) (ps ++ r ∷ [])
given-found leaves ks rs gs ps k r value h = record {
  are = AllZip-push _ gs ps k r (are-more (leaves ++ k ∷ []) leaves ks rs gs ps (λ j c. Contains-append_left leaves (k ∷ []) j c) h.are) (Contains-push leaves k, value);
  all = λ j i c v. elim (Contains-push_cases leaves k j c) [
    | inl before ↦ Contains-append_left gs (k ∷ []) j (h.all j i before v)
    | inr e ↦ subst (Contains (gs ++ k ∷ [])) e (Contains-push gs k)
  ];
}

pub given-missed : (leaves ks rs gs ps : List ℕ) (k : ℕ) → value_of k ks rs ≡ None → AreValuesGiven leaves ks rs gs ps → AreValuesGiven (leaves ++ k ∷ []) ks rs gs ps
given-missed leaves ks rs gs ps k value h = record {
  are = are-more (leaves ++ k ∷ []) leaves ks rs gs ps (λ j c. Contains-append_left leaves (k ∷ []) j c) h.are;
  all = λ j i c v. elim (Contains-push_cases leaves k j c) [
    | inl before ↦ h.all j i before v
    | inr e ↦ absurd (let none = sym v ∙ ap (λ (n : ℕ). value_of n ks rs) (sym e) ∙ value in cc)
  ];
}

pub found-next : (values : Values) (leaves gs ps more_gs more_ps : List ℕ) (i r : ℕ) → i < length leaves → Some r ≡ get nat_eq values (get_or leaves i 0) → more_gs ≡ gs ++ get_or leaves i 0 ∷ [] → more_ps ≡ ps ++ r ∷ [] → ((ks rs : List ℕ) → AreValuesOf values ks rs → AreValuesGiven (take i leaves) ks rs gs ps) → (ks rs : List ℕ) → AreValuesOf values ks rs → AreValuesGiven (take (i + 1) leaves) ks rs more_gs more_ps
found-next values leaves gs ps more_gs more_ps i r l value e f so_far ks rs h =
    let k : ℕ = get_or leaves i 0 in
    subst (λ (ls : List ℕ). AreValuesGiven ls ks rs more_gs more_ps) (sym (take_more leaves i 0 l))
    (subst (λ (xs : List ℕ). AreValuesGiven (take i leaves ++ k ∷ []) ks rs xs more_ps) (sym e)
    (subst (λ (xs : List ℕ). AreValuesGiven (take i leaves ++ k ∷ []) ks rs (gs ++ k ∷ []) xs) (sym f)
    (given-found (take i leaves) ks rs gs ps k r (sym (h k) ∙ sym value) (so_far ks rs h))))

pub missed-next : (values : Values) (leaves gs ps : List ℕ) (i : ℕ) → i < length leaves → None ≡ get nat_eq values (get_or leaves i 0) → ((ks rs : List ℕ) → AreValuesOf values ks rs → AreValuesGiven (take i leaves) ks rs gs ps) → (ks rs : List ℕ) → AreValuesOf values ks rs → AreValuesGiven (take (i + 1) leaves) ks rs gs ps
missed-next values leaves gs ps i l value so_far ks rs h =
    let k : ℕ = get_or leaves i 0 in
    subst (λ (ls : List ℕ). AreValuesGiven ls ks rs gs ps) (sym (take_more leaves i 0 l))
    (given-missed (take i leaves) ks rs gs ps k (sym (h k) ∙ sym value) (so_far ks rs h))

pub one_more_each : (gs ps more_gs more_ps : List ℕ) (k r : ℕ) → more_gs ≡ gs ++ k ∷ [] → more_ps ≡ ps ++ r ∷ [] → length gs ≡ length ps → length more_gs ≡ length more_ps
one_more_each gs ps more_gs more_ps k r e f same =
    omega (arith, ap length e, ap length f, length-append gs (k ∷ []), length-append ps (r ∷ []))
