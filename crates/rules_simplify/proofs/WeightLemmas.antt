-- Each row of the tables of rewrites makes terms lighter.
use Rattle.std.proofs.Common.{◌≡◌, ◌≤◌, ℕ, List, [], ◌∷◌, refl, sym, ap, ◌∙◌, arith, Contains}
use Rattle.std.specs.List.{AllByRecursion}
use Rattle.sym_table.specs.Table.{Table, IsTable}
use Rattle.term_model.specs.declared.symbols.Op.{Op}
use Rattle.term_model.specs.Terms.{Term, numeral, variable, operation, call, let_in, terms_of}
use Rattle.term_pool.specs.Decoding.{HasTermsAt}
use Rattle.term_pool.specs.Views.{TermsView, ReferToAll}
use Rattle.rule_model.specs.declared.letter.Letter.{Letter}
use Rattle.rule_model.specs.Rewriting.{RewriteRow}
use Rattle.rule_model.specs.Simplify.{not_simplify, implies_simplify, equiv_simplify, bool_simplify, ite_simplify, eq_simplify, comp_simplify}
use Rattle.rules_simplify.specs.declared.rewrites.Application.{Application}
use Rattle.rules_simplify.specs.declared.tables.Simplification.{Simplification}
use Rattle.rules_simplify.specs.Chains.{heaviness, Falls, StandsForApplication, terms_at}
use Rattle.rules_simplify.specs.Tables.{rows_of}
use Rattle.rules_simplify.proofs.ChainLemmas.{all_at}

some : (t : Term) → 1 ≤ heaviness t
some (numeral n) = omega arith
some (variable x) = omega arith
some (call f ts) = omega arith
some (let_in bs t) = omega arith
some (operation Op.True ts) = omega arith
some (operation Op.False ts) = omega arith
some (operation Op.Not ts) = omega arith
some (operation Op.Implies ts) = omega arith
some (operation Op.And ts) = omega arith
some (operation Op.Or ts) = omega arith
some (operation Op.Xor ts) = omega arith
some (operation Op.Equal ts) = omega arith
some (operation Op.Distinct ts) = omega arith
some (operation Op.Ite ts) = omega arith
some (operation Op.Minus ts) = omega arith
some (operation Op.Plus ts) = omega arith
some (operation Op.Times ts) = omega arith
some (operation Op.Div ts) = omega arith
some (operation Op.Mod ts) = omega arith
some (operation Op.LessEq ts) = omega arith
some (operation Op.Less ts) = omega arith
some (operation Op.GreaterEq ts) = omega arith
some (operation Op.Greater ts) = omega arith

pub not_falls : AllByRecursion Falls not_simplify
not_falls = (
  λ f. (let a = some (f Letter.A) in let b = some (f Letter.B) in let c = some (f Letter.C) in let d = some (f Letter.D) in omega (arith, a, b, c, d)),
  (
    λ f. (let a = some (f Letter.A) in let b = some (f Letter.B) in let c = some (f Letter.C) in let d = some (f Letter.D) in omega (arith, a, b, c, d)),
    (
      λ f. (let a = some (f Letter.A) in let b = some (f Letter.B) in let c = some (f Letter.C) in let d = some (f Letter.D) in omega (arith, a, b, c, d)),
      tt,
    ),
  ),
)

pub implies_falls : AllByRecursion Falls implies_simplify
implies_falls = (
  λ f. (let a = some (f Letter.A) in let b = some (f Letter.B) in let c = some (f Letter.C) in let d = some (f Letter.D) in omega (arith, a, b, c, d)),
  (
    λ f. (let a = some (f Letter.A) in let b = some (f Letter.B) in let c = some (f Letter.C) in let d = some (f Letter.D) in omega (arith, a, b, c, d)),
    (
      λ f. (let a = some (f Letter.A) in let b = some (f Letter.B) in let c = some (f Letter.C) in let d = some (f Letter.D) in omega (arith, a, b, c, d)),
      (
        λ f. (let a = some (f Letter.A) in let b = some (f Letter.B) in let c = some (f Letter.C) in let d = some (f Letter.D) in omega (arith, a, b, c, d)),
        (
          λ f. (let a = some (f Letter.A) in let b = some (f Letter.B) in let c = some (f Letter.C) in let d = some (f Letter.D) in omega (arith, a, b, c, d)),
          (
            λ f. (let a = some (f Letter.A) in let b = some (f Letter.B) in let c = some (f Letter.C) in let d = some (f Letter.D) in omega (arith, a, b, c, d)),
            (
              λ f. (let a = some (f Letter.A) in let b = some (f Letter.B) in let c = some (f Letter.C) in let d = some (f Letter.D) in omega (arith, a, b, c, d)),
              (
                λ f. (let a = some (f Letter.A) in let b = some (f Letter.B) in let c = some (f Letter.C) in let d = some (f Letter.D) in omega (arith, a, b, c, d)),
                (
                  λ f. (let a = some (f Letter.A) in let b = some (f Letter.B) in let c = some (f Letter.C) in let d = some (f Letter.D) in omega (arith, a, b, c, d)),
                  tt,
                ),
              ),
            ),
          ),
        ),
      ),
    ),
  ),
)

pub bool_falls : AllByRecursion Falls bool_simplify
bool_falls = (
  λ f. (let a = some (f Letter.A) in let b = some (f Letter.B) in let c = some (f Letter.C) in let d = some (f Letter.D) in omega (arith, a, b, c, d)),
  (
    λ f. (let a = some (f Letter.A) in let b = some (f Letter.B) in let c = some (f Letter.C) in let d = some (f Letter.D) in omega (arith, a, b, c, d)),
    (
      λ f. (let a = some (f Letter.A) in let b = some (f Letter.B) in let c = some (f Letter.C) in let d = some (f Letter.D) in omega (arith, a, b, c, d)),
      (
        λ f. (let a = some (f Letter.A) in let b = some (f Letter.B) in let c = some (f Letter.C) in let d = some (f Letter.D) in omega (arith, a, b, c, d)),
        (
          λ f. (let a = some (f Letter.A) in let b = some (f Letter.B) in let c = some (f Letter.C) in let d = some (f Letter.D) in omega (arith, a, b, c, d)),
          (
            λ f. (let a = some (f Letter.A) in let b = some (f Letter.B) in let c = some (f Letter.C) in let d = some (f Letter.D) in omega (arith, a, b, c, d)),
            (
              λ f. (let a = some (f Letter.A) in let b = some (f Letter.B) in let c = some (f Letter.C) in let d = some (f Letter.D) in omega (arith, a, b, c, d)),
              tt,
            ),
          ),
        ),
      ),
    ),
  ),
)

pub equiv_falls : AllByRecursion Falls equiv_simplify
equiv_falls = (
  λ f. (let a = some (f Letter.A) in let b = some (f Letter.B) in let c = some (f Letter.C) in let d = some (f Letter.D) in omega (arith, a, b, c, d)),
  (
    λ f. (let a = some (f Letter.A) in let b = some (f Letter.B) in let c = some (f Letter.C) in let d = some (f Letter.D) in omega (arith, a, b, c, d)),
    (
      λ f. (let a = some (f Letter.A) in let b = some (f Letter.B) in let c = some (f Letter.C) in let d = some (f Letter.D) in omega (arith, a, b, c, d)),
      (
        λ f. (let a = some (f Letter.A) in let b = some (f Letter.B) in let c = some (f Letter.C) in let d = some (f Letter.D) in omega (arith, a, b, c, d)),
        (
          λ f. (let a = some (f Letter.A) in let b = some (f Letter.B) in let c = some (f Letter.C) in let d = some (f Letter.D) in omega (arith, a, b, c, d)),
          (
            λ f. (let a = some (f Letter.A) in let b = some (f Letter.B) in let c = some (f Letter.C) in let d = some (f Letter.D) in omega (arith, a, b, c, d)),
            (
              λ f. (let a = some (f Letter.A) in let b = some (f Letter.B) in let c = some (f Letter.C) in let d = some (f Letter.D) in omega (arith, a, b, c, d)),
              (
                λ f. (let a = some (f Letter.A) in let b = some (f Letter.B) in let c = some (f Letter.C) in let d = some (f Letter.D) in omega (arith, a, b, c, d)),
                tt,
              ),
            ),
          ),
        ),
      ),
    ),
  ),
)

pub ite_falls : AllByRecursion Falls ite_simplify
ite_falls = (
  λ f. (let a = some (f Letter.A) in let b = some (f Letter.B) in let c = some (f Letter.C) in let d = some (f Letter.D) in omega (arith, a, b, c, d)),
  (
    λ f. (let a = some (f Letter.A) in let b = some (f Letter.B) in let c = some (f Letter.C) in let d = some (f Letter.D) in omega (arith, a, b, c, d)),
    (
      λ f. (let a = some (f Letter.A) in let b = some (f Letter.B) in let c = some (f Letter.C) in let d = some (f Letter.D) in omega (arith, a, b, c, d)),
      (
        λ f. (let a = some (f Letter.A) in let b = some (f Letter.B) in let c = some (f Letter.C) in let d = some (f Letter.D) in omega (arith, a, b, c, d)),
        (
          λ f. (let a = some (f Letter.A) in let b = some (f Letter.B) in let c = some (f Letter.C) in let d = some (f Letter.D) in omega (arith, a, b, c, d)),
          (
            λ f. (let a = some (f Letter.A) in let b = some (f Letter.B) in let c = some (f Letter.C) in let d = some (f Letter.D) in omega (arith, a, b, c, d)),
            (
              λ f. (let a = some (f Letter.A) in let b = some (f Letter.B) in let c = some (f Letter.C) in let d = some (f Letter.D) in omega (arith, a, b, c, d)),
              (
                λ f. (let a = some (f Letter.A) in let b = some (f Letter.B) in let c = some (f Letter.C) in let d = some (f Letter.D) in omega (arith, a, b, c, d)),
                (
                  λ f. (let a = some (f Letter.A) in let b = some (f Letter.B) in let c = some (f Letter.C) in let d = some (f Letter.D) in omega (arith, a, b, c, d)),
                  (
                    λ f. (let a = some (f Letter.A) in let b = some (f Letter.B) in let c = some (f Letter.C) in let d = some (f Letter.D) in omega (arith, a, b, c, d)),
                    (
                      λ f. (let a = some (f Letter.A) in let b = some (f Letter.B) in let c = some (f Letter.C) in let d = some (f Letter.D) in omega (arith, a, b, c, d)),
                      (
                        λ f. (let a = some (f Letter.A) in let b = some (f Letter.B) in let c = some (f Letter.C) in let d = some (f Letter.D) in omega (arith, a, b, c, d)),
                        tt,
                      ),
                    ),
                  ),
                ),
              ),
            ),
          ),
        ),
      ),
    ),
  ),
)

pub equality_falls : AllByRecursion Falls eq_simplify
equality_falls = (λ f. (let a = some (f Letter.A) in let b = some (f Letter.B) in omega (arith, a, b)), (λ f. (let a = some (f Letter.A) in let b = some (f Letter.B) in omega (arith, a, b)), (λ f. (let a = some (f Letter.A) in let b = some (f Letter.B) in omega (arith, a, b)), tt)))

pub comparison_falls : AllByRecursion Falls comp_simplify
comparison_falls = (λ f. (let a = some (f Letter.A) in let b = some (f Letter.B) in omega (arith, a, b)), (λ f. (let a = some (f Letter.A) in let b = some (f Letter.B) in omega (arith, a, b)), (λ f. (let a = some (f Letter.A) in let b = some (f Letter.B) in omega (arith, a, b)), (λ f. (let a = some (f Letter.A) in let b = some (f Letter.B) in omega (arith, a, b)), (λ f. (let a = some (f Letter.A) in let b = some (f Letter.B) in omega (arith, a, b)), (λ f. (let a = some (f Letter.A) in let b = some (f Letter.B) in omega (arith, a, b)), (λ f. (let a = some (f Letter.A) in let b = some (f Letter.B) in omega (arith, a, b)), (λ f. (let a = some (f Letter.A) in let b = some (f Letter.B) in omega (arith, a, b)), (λ f. (let a = some (f Letter.A) in let b = some (f Letter.B) in omega (arith, a, b)), tt)))))))))

all_fall : (table : Simplification) → AllByRecursion Falls (rows_of table)
all_fall Simplification.Not = not_falls
all_fall Simplification.Implies = implies_falls
all_fall Simplification.Equiv = equiv_falls
all_fall Simplification.Bool = bool_falls
all_fall Simplification.Ite = ite_falls
all_fall Simplification.Equality = equality_falls
all_fall Simplification.Comparison = comparison_falls

pub row_falls : (table : Simplification) (row : RewriteRow) → Contains (rows_of table) row → Falls row
row_falls table row there = all_at Falls (rows_of table) row (all_fall table) there

-- the weight of an application by its references
abbrev pub weight_at : Table → TermsView → Application → ℕ
weight_at s v at = heaviness (operation at.op (terms_at s v at.arguments.items))

module _ (s : Table) (v : TermsView) (table : IsTable s) (terms : HasTermsAt v) where
  pub terms_are : (rs : List ℕ) (ts : List Term) → ReferToAll s v rs ts → terms_at s v rs ≡ terms_of ts
  terms_are [] [] h = refl
  terms_are [] (t ∷ ts) h = absurd h
  terms_are (r ∷ rs) [] h = absurd h
  terms_are (r ∷ rs) (t ∷ ts) h = rw (terms s r t table h.0, terms_are rs ts h.1) refl

  pub weight_is : (at : Application) (t : Term) → StandsForApplication s v at t → weight_at s v at ≡ heaviness t
  weight_is at t is = ap (λ us. heaviness (operation at.op us)) (terms_are at.arguments.items is.arguments is.refer) ∙ sym (ap heaviness is.is)
