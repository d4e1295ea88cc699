-- A list without a constant, and a list without later repeats, by references.
use Rattle.std.proofs.Common.{◌≡◌, ◌≢◌, ◌↔◌, ◌<◌, ◌≤◌, ◌+◌, ℕ, List, [], ◌∷◌, ◌++◌, length, get_or, take, Contains, inl, inr, Bool, true, false, IsTrue, refl, sym, ap, ◌∙◌, subst}
use Rattle.std.proofs.lemmas.List.{take_more, take_all}
use Rattle.std.proofs.lemmas.List.Elements.{Contains-push_cases, Contains-push, Contains-append_left}
use Rattle.sym_table.specs.Table.{Table}
use Rattle.term_model.specs.Terms.{Term}
use Rattle.term_model.proofs.Lists.{contains_head, contains_later}
use Rattle.term_pool.specs.Views.{TermsView, RefersTo, ReferToAll}
use Rattle.term_pool.proofs.References.{AreOne}
use Rattle.rule_model.specs.Resolution.{LeavesWithout, IsFirstsOf}
use Rattle.rule_model.proofs.JoinedLists.{without_last, kept_last}
use Rattle.schema_match.proofs.ReferLemmas.{refer_append, contains_terms, contains_references}
use Rattle.rules_simplify.specs.Joins.{AreWithout, AreOnceEach}

-- the list has the first items of another, but for one that is left out
abbrev pub AreLeft : ℕ → List ℕ → ℕ → List ℕ → Type 0
AreLeft out items i kept = LeavesWithout out (take i items) kept

module _ (out : ℕ) (items : List ℕ) (i r : ℕ) (below : i < length items) (is : r ≡ get_or items i r) (told : Bool) (test : IsTrue told ↔ (r ≡ out)) (kept : List ℕ) (before : AreLeft out items i kept) where
  next : take (i + 1) items ≡ take i items ++ r ∷ []
  next = take_more items i r below ∙ ap (λ (x : ℕ). take i items ++ x ∷ []) (sym is)

  pub left_out : told ≡ true → AreLeft out items (i + 1) kept
  left_out holds = rw next (without_last out (take i items) kept r before (test.0 holds))

  pub kept_on : told ≡ false → (more : List ℕ) → more ≡ kept ++ r ∷ [] → AreLeft out items (i + 1) more
  kept_on fails more pushed = rw (next, pushed) (kept_last out (take i items) kept r before (λ e. absurd (let holds = test.1 e in cc)))

pub all_left : (out : ℕ) (items : List ℕ) (i : ℕ) (kept : List ℕ) → length items ≤ i → AreLeft out items i kept → LeavesWithout out items kept
all_left out items i kept past all = subst (λ (xs : List ℕ). LeavesWithout out xs kept) (take_all i items past) all

-- a list that lacks what is left out stays
pub lacks_none : (out : ℕ) (items : List ℕ) → ¬ Contains items out → LeavesWithout out items items
lacks_none out [] lacks = refl
lacks_none out (r ∷ items) lacks =
    inr (λ same. lacks (subst (Contains (r ∷ items)) same (contains_head r items)), (items, refl, lacks_none out items (λ there. lacks (contains_later r out items there))))

-- what is left of references refers to what is left of their terms
module _ (s : Table) (v : TermsView) (one : AreOne s v) where
  pub without_terms : (n : ℕ) (c : Term) → RefersTo s v n c → (rs : List ℕ) (ts : List Term) → ReferToAll s v rs ts → (qs : List ℕ) → LeavesWithout n rs qs → AreWithout s v c ts qs
  without_terms n c refers [] [] refer qs e = rw e (record { kept = []; refer = tt; is = refl })
  without_terms n c refers [] (t ∷ ts) refer qs e = absurd refer
  without_terms n c refers (r ∷ rs) [] refer qs w = absurd refer
  without_terms n c refers (r ∷ rs) (t ∷ ts) refer qs (inl (same, w)) =
      let h = without_terms n c refers rs ts refer.1 qs w in
      record { kept = h.kept; refer = h.refer; is = inl ((one r n t c refer.0 refers).0 same, h.is) }
  without_terms n c refers (r ∷ rs) (t ∷ ts) refer qs (inr (other, (more, e, w))) =
      let h = without_terms n c refers rs ts refer.1 more w in
      rw e (record { kept = t ∷ h.kept; refer = (refer.0, h.refer); is = inr ((λ same. other ((one r n t c refer.0 refers).1 same)), (h.kept, refl, h.is)) })

  record AreFirsts (before ts : List Term) (qs : List ℕ) : Type 0 where
    kept : List Term
    refer : ReferToAll s v qs kept
    is : IsFirstsOf before ts kept

  firsts_terms : (seen : List ℕ) (before : List Term) → ReferToAll s v seen before → (rs : List ℕ) (ts : List Term) → ReferToAll s v rs ts → (qs : List ℕ) → IsFirstsOf seen rs qs → AreFirsts before ts qs
  firsts_terms seen before seen_refer [] [] refer qs e = rw e (record { kept = []; refer = tt; is = refl })
  firsts_terms seen before seen_refer [] (t ∷ ts) refer qs e = absurd refer
  firsts_terms seen before seen_refer (r ∷ rs) [] refer qs f = absurd refer
  firsts_terms seen before seen_refer (r ∷ rs) (t ∷ ts) refer qs (inl (there, f)) =
      let h = firsts_terms seen before seen_refer rs ts refer.1 qs f in
      record { kept = h.kept; refer = h.refer; is = inl (contains_terms s v one seen before r t seen_refer refer.0 there, h.is) }
  firsts_terms seen before seen_refer (r ∷ rs) (t ∷ ts) refer qs (inr (new, (more, e, f))) =
      let h = firsts_terms (seen ++ r ∷ []) (before ++ t ∷ []) (refer_append s v seen (r ∷ []) before (t ∷ []) seen_refer (refer.0, tt)) rs ts refer.1 more f in
      rw e (record {
        kept = t ∷ h.kept;
        refer = (refer.0, h.refer);
        is = inr ((λ there. new (contains_references s v one seen before r t seen_refer refer.0 there)), (h.kept, refl, h.is));
      })

  pub once_terms : (rs : List ℕ) (ts : List Term) → ReferToAll s v rs ts → (qs : List ℕ) → IsFirstsOf [] rs qs → AreOnceEach s v ts qs
  once_terms rs ts refer qs f = let h = firsts_terms [] [] tt rs ts refer qs f in record { kept = h.kept; refer = h.refer; is = h.is }

-- the lists have the same items but for one
abbrev AreSameBut : Term → List Term → List Term → Type 0
AreSameBut out seen before = (x : Term) → x ≢ out → Contains seen x ↔ Contains before x

same_both : (out : Term) (seen before : List Term) (t : Term) → AreSameBut out seen before → AreSameBut out (seen ++ t ∷ []) (before ++ t ∷ [])
same_both out seen before t same x other = (
  λ c. elim (Contains-push_cases seen t x c) [ inl there ↦ Contains-append_left before (t ∷ []) x ((same x other).0 there) | inr e ↦ rw (← e) (Contains-push before t) ],
  λ c. elim (Contains-push_cases before t x c) [ inl there ↦ Contains-append_left seen (t ∷ []) x ((same x other).1 there) | inr e ↦ rw (← e) (Contains-push seen t) ],
)

same_left_out : (out : Term) (seen before : List Term) (t : Term) → t ≡ out → AreSameBut out seen before → AreSameBut out (seen ++ t ∷ []) before
same_left_out out seen before t is same x other = (
  λ c. elim (Contains-push_cases seen t x c) [ inl there ↦ (same x other).0 there | inr e ↦ absurd (other (sym e ∙ is)) ],
  λ c. Contains-append_left seen (t ∷ []) x ((same x other).1 c),
)

-- a term is left out of what stands once, or later repeats of what is left when it is left out
both_orders : (out : Term) (seen before ts single both shorter : List Term) → AreSameBut out seen before → IsFirstsOf seen ts single → LeavesWithout out single both → LeavesWithout out ts shorter → IsFirstsOf before shorter both
both_orders out seen before [] single both shorter same f w l =
    let none : both ≡ [] = subst (λ (xs : List Term). LeavesWithout out xs both) f w in
    rw l none
both_orders out seen before (t ∷ ts) single both shorter same (inl (there, f)) w (inl (is, l)) = both_orders out seen before ts single both shorter same f w l
both_orders out seen before (t ∷ ts) single both shorter same (inl (there, f)) w (inr (other, (us, e, l))) =
    rw e (inl ((same t other).0 there, both_orders out seen before ts single both us same f w l))
both_orders out seen before (t ∷ ts) single both shorter same (inr (new, (ks, e, f))) w l =
    go (λ b x y alike left kept. both_orders out (seen ++ t ∷ []) b ts ks x y alike f left kept) (subst (λ (xs : List Term). LeavesWithout out xs both) e w) l
  where
    go : ((b x y : List Term) → AreSameBut out (seen ++ t ∷ []) b → LeavesWithout out ks x → LeavesWithout out ts y → IsFirstsOf b y x) → LeavesWithout out (t ∷ ks) both → LeavesWithout out (t ∷ ts) shorter → IsFirstsOf before shorter both
    go again (inl (is, w)) (inl (too, l)) = again before both shorter (same_left_out out seen before t is same) w l
    go again (inl (is, w)) (inr (other, l)) = absurd (other is)
    go again (inr (other, w)) (inl (is, l)) = absurd (other is)
    go again (inr (other, (ws, g, w))) (inr (too, (us, h, l))) =
        rw h (inr ((λ there. new ((same t other).1 there)), (ws, g, again (before ++ t ∷ []) ws us (same_both out seen before t same) w l)))

pub once_without : (out : Term) (ts single both shorter : List Term) → IsFirstsOf [] ts single → LeavesWithout out single both → LeavesWithout out ts shorter → IsFirstsOf [] shorter both
once_without out ts single both shorter f w l = both_orders out [] [] ts single both shorter (λ x other. ((λ c. c), (λ c. c))) f w l
