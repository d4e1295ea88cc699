-- The arguments of a term whose head is an operator.
use Rattle.std.proofs.Common.{◌≡◌, ◌≢◌, ℕ, List, length, Bool, true, false, nat_eq, Some, sym, ◌∙◌, subst}
use Rattle.std.proofs.lemmas.Bool.{eq-eqb, false≢true}
use Rattle.pair_pool.specs.Views.{IsKnown}
use Rattle.sym_table.specs.Table.{Table}
use Rattle.term_model.specs.declared.symbols.Op.{Op}
use Rattle.term_model.specs.Terms.{Term}
use Rattle.term_parts.specs.Parts.{IsOver}
use Rattle.term_parts.proofs.PartLemmas.{let_is_not_over}
use Rattle.term_pool.specs.Reading.{arguments_of, IsLet}
use Rattle.term_pool.specs.Views.{TermsView, RefersTo, IsTerm, ReferToAll}
use Rattle.schema_match.specs.Arguments.{HasArguments, HasNoArguments}
use Rattle.schema_match.specs.Signs.{IsSigned}
use Rattle.schema_match.specs.declared.signs.Sign.{Sign}
use Rattle.schema_match.proofs.ArgumentLemmas.{none_loaded, loaded}
use Rattle.schema_match.proofs.ReferLemmas.{refer_length}

pub term_known : (s : Table) (v : TermsView) (r : ℕ) → IsTerm s v r → IsKnown v.pass r
term_known s v r is = record { tree = is.refers.tree; stands = is.refers.known }

-- the arguments of a term whose head is the operator
module _ (s : Table) (v : TermsView) (op : Op) (sign : Sign) (r a : ℕ) (signed : (t : Term) → RefersTo s v r t → IsSigned s v sign a t) (headed : (t : Term) → RefersTo s v a t → IsOver op (length (arguments_of t)) t) (items : List ℕ) (arguments : (t : Term) → RefersTo s v a t → (IsLet t → ⊥) → ReferToAll s v items (arguments_of t)) where
  refer : (t : Term) → RefersTo s v a t → ReferToAll s v items (arguments_of t)
  refer t refers = arguments t refers (λ is. let_is_not_over (length (arguments_of t)) op t is (headed t refers))

  so_many : (t : Term) → RefersTo s v a t → IsOver op (length items) t
  so_many t refers = subst (λ n. IsOver op n t) (sym (refer_length s v items (arguments_of t) (refer t refers))) (headed t refers)

  pub row_empty : length items ≡ 0 → (t : Term) → RefersTo s v r t → HasNoArguments op sign t
  row_empty empty = none_loaded s v op sign r a signed (Some (length items)) so_many tt empty

  pub row_loaded : length items ≢ 0 → (t : Term) → RefersTo s v r t → HasArguments s v op sign t items
  row_loaded some = loaded s v op sign r a signed (Some (length items)) items so_many some (λ t refers count. refer t refers)

pub not_empty : (items list : List ℕ) (b : Bool) → list ≡ items → b ≡ nat_eq (length list) 0 → b ≡ false → length items ≢ 0
not_empty items list b same is fails e =
    let there : nat_eq (length items) 0 ≡ true = eq-eqb (length items) 0 e in
    let none : nat_eq (length items) 0 ≡ false = subst (λ (xs : List ℕ). nat_eq (length xs) 0 ≡ false) same (sym is ∙ fails) in
    false≢true (sym none ∙ there)
