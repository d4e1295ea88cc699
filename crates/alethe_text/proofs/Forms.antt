-- A list that nothing closes.
use Rattle.std.proofs.Common.{◌≡◌, ℕ, List, [], ◌∷◌, ◌++◌, subst}
use Rattle.std.specs.List.{AllByRecursion}
use Rattle.sexpr.specs.declared.lexing.Token.{Token}
use Rattle.sexpr.specs.declared.lexing.TokenKind.TheVariants.{Close}
use Rattle.sexpr.specs.Form.{NeverClose}

-- no token is a closing bracket
pub none_closes : (source : List ℕ) (tokens : List Token) → AllByRecursion (λ t. t.kind ≡ Close → ⊥) tokens → NeverClose source tokens
none_closes source tokens h [] bracket back e is_close nested = (subst (AllByRecursion (λ t. t.kind ≡ Close → ⊥)) e h).0 is_close
none_closes source [] h (t ∷ front) bracket back e is_close nested = absurd (cc)
none_closes source (u ∷ tokens) h (t ∷ front) bracket back e is_close nested = rest tokens h.1 front (later e)
  where
    later : u ∷ tokens ≡ t ∷ (front ++ bracket ∷ back) → tokens ≡ front ++ bracket ∷ back
    later e = cc

    rest : (tokens : List Token) → AllByRecursion (λ t. t.kind ≡ Close → ⊥) tokens → (front : List Token) → tokens ≡ front ++ bracket ∷ back → ⊥
    rest tokens h [] e = (subst (AllByRecursion (λ t. t.kind ≡ Close → ⊥)) e h).0 is_close
    rest [] h (t ∷ front) e = absurd (cc)
    rest (u ∷ tokens) h (t ∷ front) e = rest tokens h.1 front (let f = e in cc)
