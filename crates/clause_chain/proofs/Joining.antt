-- Lists from which an item is removed, and lists without repeats, one item more.
use Rattle.std.proofs.Common.{◌≡◌, ◌≢◌, ◌⊎◌, inl, inr, List, [], ◌∷◌, ◌++◌, refl, sym, ◌∙◌, ap, subst, Contains}
use Rattle.std.proofs.lemmas.List.{append-nil, append_assoc}
use Rattle.term_model.proofs.Lists.{contains_none, contains_cases, contains_head, contains_later}
use Rattle.rule_model.specs.Resolution.{LeavesWithout, IsFirstsOf, IsJoined}
use Rattle.rule_model.proofs.JoinedLists.{without_last, kept_last, repeated_last, new_last}
use Rattle.clause_chain.specs.Adding.{AddsMissing, AddsOthers, StandsBefore}
use Rattle.clause_chain.specs.declared.signed_term.SignedTerm.{SignedTerm}

-- what is not removed is left
pub kept_without : {X : Type 0} (p : X) (xs rest : List X) (u : X) → LeavesWithout p xs rest → Contains xs u → (u ≡ p) ⊎ Contains rest u
kept_without p [] rest u w c = absurd (contains_none u c)
kept_without p (x ∷ xs) rest u (inl (same, w)) c =
    elim (contains_cases x u xs c) [ inl here ↦ inl (sym here ∙ same) | inr later ↦ kept_without p xs rest u w later ]
kept_without p (x ∷ xs) rest u (inr (other, (us, e, w))) c =
    elim (contains_cases x u xs c) [
      | inl here ↦ inr (rw (e, ← here) (contains_head x us))
      | inr later ↦ elim (kept_without p xs us u w later) [ inl same ↦ inl same | inr left ↦ inr (rw e (contains_later x u us left)) ]
    ]

-- one item more of those that are added in turn
pub added_same : (there : SignedTerm) (old items now : List SignedTerm) (x : SignedTerm) → AddsOthers there old items now → x ≡ there
    → AddsOthers there old (items ++ x ∷ []) now
added_same there old items now x adds same = record {
  rest = adds.rest;
  others = without_last there items adds.rest x adds.others same;
  more = adds.more;
  firsts = adds.firsts;
  appended = adds.appended;
}

pub added_other : (there : SignedTerm) (old items now : List SignedTerm) (x : SignedTerm) (new : List SignedTerm) → AddsOthers there old items now
    → x ≢ there → AddsMissing now x new → AddsOthers there old (items ++ x ∷ []) new
added_other there old items now x new adds other (inl (has, same)) = record {
  rest = adds.rest ++ x ∷ [];
  others = kept_last there items adds.rest x adds.others other;
  more = adds.more;
  firsts = repeated_last old adds.rest adds.more x adds.firsts (rw adds.appended at has);
  appended = same ∙ adds.appended;
}
added_other there old items now x new adds other (inr (lacks, more)) = record {
  rest = adds.rest ++ x ∷ [];
  others = kept_last there items adds.rest x adds.others other;
  more = adds.more ++ x ∷ [];
  firsts = new_last old adds.rest adds.more x adds.firsts (λ has. lacks (rw adds.appended has));
  appended = more ∙ ap (λ l. l ++ x ∷ []) adds.appended ∙ append_assoc old adds.more (x ∷ []);
}

-- what an item added does to the first ones of a list
pub firsts_more : (items now : List SignedTerm) (x : SignedTerm) (new : List SignedTerm) → IsFirstsOf [] items now → AddsMissing now x new
    → IsFirstsOf [] (items ++ x ∷ []) new
firsts_more items now x new firsts (inl (has, same)) = rw same (repeated_last [] items now x firsts has)
firsts_more items now x new firsts (inr (lacks, more)) = rw more (new_last [] items now x firsts lacks)

-- an item taken from a list, and the others of a premise behind what is left
pub joined_by : (left kept premise new : List SignedTerm) (here there : SignedTerm) → Contains left here → Contains premise there
    → LeavesWithout here left kept → StandsBefore kept → AddsOthers there kept premise new → IsJoined left premise here there new
joined_by left kept premise new here there on_left on_right taken alone adds = record {
  on_left = on_left;
  on_right = on_right;
  left_rest = kept;
  left_is = taken;
  right_rest = adds.rest;
  right_is = adds.others;
  firsts = rw adds.appended (alone adds.rest adds.more adds.firsts);
}

-- the first ones of two lists, one after the other
pub firsts_both : {X : Type 0} (seen xs ys us vs : List X) → IsFirstsOf seen xs ys → IsFirstsOf (seen ++ ys) us vs → IsFirstsOf seen (xs ++ us) (ys ++ vs)
firsts_both seen [] ys us vs f k = let e : seen ++ ys ≡ seen = rw (f, append-nil seen) refl in rw f (rw e at k)
firsts_both seen (x ∷ xs) ys us vs (inl (has, f)) k = inl (has, firsts_both seen xs ys us vs f k)
firsts_both {X} seen (x ∷ xs) ys us vs (inr (lacks, (rest, e, f))) k =
    inr (
      lacks,
      (
        rest ++ vs,
        ap (λ l. l ++ vs) e,
        firsts_both (seen ++ x ∷ []) xs rest us vs f
            (subst (λ (l : List X). IsFirstsOf l us vs) (ap (λ l. seen ++ l) e ∙ sym (append_assoc seen (x ∷ []) rest)) k),
      ),
    )

-- two lists of which the others are added in turn, to nothing
pub joined_in_list : (left right middle new : List SignedTerm) (here there : SignedTerm) → Contains left here → Contains right there
    → AddsOthers here [] left middle → AddsOthers there middle right new → IsJoined left right here there new
joined_in_list left right middle new here there on_left on_right first second = record {
  on_left = on_left;
  on_right = on_right;
  left_rest = first.rest;
  left_is = first.others;
  right_rest = second.rest;
  right_is = second.others;
  firsts =
      rw second.appended
      (rw first.appended
      (firsts_both [] first.rest first.more second.rest second.more first.firsts
      (subst (λ l. IsFirstsOf l second.rest second.more) first.appended second.firsts)));
}
