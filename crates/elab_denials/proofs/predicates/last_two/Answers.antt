use Rattle.std.proofs.Common.{◌∷◌, ◌++◌, [], ◌∙◌, append_assoc, sym}
use Rattle.elab_denials.proofs.PredicateLemmas.{front_same}
use Rattle.elab_denials.proofs.predicates.last_two.Goals as goal

pub returns-in_default-clause-other : goal.returns-in_default-clause-other
returns-in_default-clause-other c front q r e = c.in_default.ensures.other (front ++ q ∷ []) r (e ∙ sym (append_assoc front (q ∷ []) (r ∷ [])))

pub returns-in_default-before_last-clause-other : goal.returns-in_default-before_last-clause-other
returns-in_default-before_last-clause-other c front q r e =
    c.in_default-before_last.ensures.other front q
    (front_same c.in-Some.split.0.now (front ++ q ∷ []) c.in-Some.split.1 r
    (sym c.in-Some.ensures.split ∙ (e ∙ sym (append_assoc front (q ∷ []) (r ∷ [])))))
