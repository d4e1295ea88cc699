-- What a table says after a function is declared.
use Rattle.std.proofs.Common.{◌≡◌, ◌⊎◌, ◌↔◌, inl, inr, ℕ, ◌<◌, ◌≤◌, ◌+◌, ◌^◌, Bool, true, false, List, [], ◌∷◌, ◌++◌, length, slice_get, Option, Some, None, is_some, IfSome, IfNone, refl, sym, ◌∙◌, ap, arith, subst}
use Rattle.std.proofs.lemmas.Bool.{true≢false}
use Rattle.sym_table.specs.declared.cells.Symbol.{Symbol}
use Rattle.sym_table.specs.declared.cells.Function.{Function}
use Rattle.sym_table.specs.Names.{Lacks}
use Rattle.sym_table.specs.Leaf.{function}
use Rattle.sym_table.specs.Table.{Table, IsFunctionName, with_leaf}
use Rattle.sym_table.specs.Cells.{AreKeysLinked}
use Rattle.sym_table.proofs.Links.{AreLinked-push_function, length-push}
use Rattle.sym_table.proofs.Tables.{leaves_of-push_function}
use Rattle.sym_table.proofs.Laws.{table_of}
use Rattle.sym_table.proofs.Adds.{length-seen}
use Rattle.sym_table.proofs.Functions.{IsFunctionName-number, lacks-IsFunctionName}

-- a function was added to the fields, with its name and its key
pub record AddsFunction (names more_names : List (List ℕ)) (functions more : List Function) (keys more_keys : List Symbol) (name : List ℕ) (f : Function) : Type 0 where
  pub names_grown : more_names ≡ names ++ name ∷ []
  pub functions_grown : more ≡ functions ++ f ∷ []
  pub keys_grown : more_keys ≡ keys ++ Symbol.Function (length functions) ∷ []

pub adds : (names more_names : List (List ℕ)) (functions more : List Function) (keys more_keys : List Symbol) (name : List ℕ) (f : Function) → more_names ≡ names ++ name ∷ [] → more ≡ functions ++ f ∷ [] → more_keys ≡ keys ++ Symbol.Function (length functions) ∷ [] → AddsFunction names more_names functions more keys more_keys name f
adds names more_names functions more keys more_keys name f a b c = record { names_grown = a; functions_grown = b; keys_grown = c }

module _ (names more_names : List (List ℕ)) (functions more : List Function) (variables : List (List ℕ)) (keys more_keys : List Symbol) (sorts : List (List ℕ)) (name : List ℕ) (f : Function) (t : Table) (v : table_of names functions variables keys sorts ≡ t) (h : AreKeysLinked names functions variables keys) (a : AddsFunction names more_names functions more keys more_keys name f) where
  -- the fields after it
  grown : table_of more_names more variables more_keys sorts ≡ table_of (names ++ name ∷ []) (functions ++ f ∷ []) variables (keys ++ Symbol.Function (length functions) ∷ []) sorts
  grown =
      ap (λ ns. table_of ns more variables more_keys sorts) a.names_grown
      ∙ ap (λ fs. table_of (names ++ name ∷ []) fs variables more_keys sorts) a.functions_grown
      ∙ ap (λ ks. table_of (names ++ name ∷ []) (functions ++ f ∷ []) variables ks sorts) a.keys_grown

  pub with_leaf-declared : table_of more_names more variables more_keys sorts ≡ with_leaf t (function name f.arguments.items f.target)
  with_leaf-declared =
      grown
      ∙ ap (λ ls. record { leaves = ls; sorts = sorts }) (leaves_of-push_function names functions variables keys name f h)
      ∙ ap (λ (u : Table). with_leaf u (function name f.arguments.items f.target)) v

  pub AreLinked-declared : Lacks names name → f.place ≡ length keys → AreKeysLinked more_names more variables more_keys
  AreLinked-declared lacks p =
      subst (λ ns. AreKeysLinked ns more variables more_keys) (sym a.names_grown)
      (subst (λ fs. AreKeysLinked (names ++ name ∷ []) fs variables more_keys) (sym a.functions_grown)
      (subst (λ ks. AreKeysLinked (names ++ name ∷ []) (functions ++ f ∷ []) variables ks) (sym a.keys_grown) (AreLinked-push_function names functions variables keys name f h lacks p)))

  pub few-declared : length t.leaves < 2 ^ 30 → length more_keys + 21 ≤ 2 ^ 30
  few-declared room =
      omega (arith, length-seen t names functions variables keys sorts v, ap length a.keys_grown, length-push keys (Symbol.Function (length functions)))

module _ (names : List (List ℕ)) (functions : List Function) (variables : List (List ℕ)) (keys : List Symbol) (sorts : List (List ℕ)) (name : List ℕ) (t : Table) (v : table_of names functions variables keys sorts ≡ t) (h : AreKeysLinked names functions variables keys) where
  -- a name that is not declared is not there
  pub Lacks-undeclared : (IsFunctionName t name → ⊥) → Lacks names name
  Lacks-undeclared free k e = free (IsFunctionName-number t names functions variables keys sorts k name v h e)

  -- a name is there exactly where it is declared
  pub declared_where_there : (o : Option ℕ) → IfSome o (λ k. slice_get names k ≡ Some name) → IfNone o (Lacks names name) → (is_some o ≡ true) ↔ IsFunctionName t name
  declared_where_there None s n = (λ e. absurd (true≢false (sym e)), λ d. absurd (lacks-IsFunctionName t names functions variables keys sorts name v h n d))
  declared_where_there (Some k) s n = (λ e. IsFunctionName-number t names functions variables keys sorts k name v h s, λ d. refl)

-- an "or" of two tests
pub or_else : {P Q : Type 0} (a b : Bool) → a ≡ false → (a ≡ true) ↔ P → (b ≡ true) ↔ Q → (b ≡ true) ↔ (P ⊎ Q)
or_else a b failed p q = (λ e. inr (q.0 e), λ h. elim h [ inl x ↦ absurd (true≢false (sym (p.1 x) ∙ failed)) | inr y ↦ q.1 y ])
