-- What strict mode asks of arguments is enough for check mode.
use Rattle.std.proofs.Common.{inl, inr, List, [], ◌∷◌, sym, subst}
use Rattle.std.specs.List.{AllZip}
use Rattle.rule_model.specs.Congruence.{AreDifferences, IsLinked}
use Rattle.term_model.specs.Flips.{EqualUpToFlips, same, equality}
use Rattle.term_model.specs.Terms.{Term}
use Rattle.term_model.proofs.Lists.{contains_head, contains_later}

-- more premises link as much
wider : (p : List Term) (ps : List (List Term)) (t u : Term) → IsLinked ps t u → IsLinked (p ∷ ps) t u
wider p ps t u (inl alike) = inl alike
wider p ps t u (inr (inl one)) = inr (inl (contains_later p (equality t u ∷ []) ps one))
wider p ps t u (inr (inr one)) = inr (inr (contains_later p (equality u t ∷ []) ps one))

all_wider : (p : List Term) (ps : List (List Term)) (ts us : List Term) → AllZip (IsLinked ps) ts us → AllZip (IsLinked (p ∷ ps)) ts us
all_wider p ps [] [] h = tt
all_wider p ps [] (u ∷ us) h = absurd h
all_wider p ps (t ∷ ts) [] h = absurd h
all_wider p ps (t ∷ ts) (u ∷ us) h = (wider p ps t u h.0, all_wider p ps ts us h.1)

pub differences_linked : (ps : List (List Term)) (ts us : List Term) → AreDifferences ps ts us → AllZip (IsLinked ps) ts us
differences_linked ps [] [] h = tt
differences_linked ps [] (u ∷ us) h = absurd h
differences_linked ps (t ∷ ts) [] h = absurd h
differences_linked ps (t ∷ ts) (u ∷ us) (inl (e, more)) =
    (inl (subst (EqualUpToFlips t) e (same t)), differences_linked ps ts us more)
differences_linked ps (t ∷ ts) (u ∷ us) (inr (apart, (rest, is, more))) =
    subst (λ qs. AllZip (IsLinked qs) (t ∷ ts) (u ∷ us)) (sym is)
    (inr (inl (contains_head (equality t u ∷ []) rest)), all_wider (equality t u ∷ []) rest ts us (differences_linked rest ts us more))
