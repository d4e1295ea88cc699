-- Private. Names that may stand in a term behind a script without macros and named terms.
use Rattle.std.proofs.Common.{◌≡◌, inl, inr, ℕ, Bool, true, false, Option, Some, None}
use Rattle.std.proofs.Common.{IfSome, List, [], ◌∷◌, bytes_eq, find, cond, option_map, refl, sym}
use Rattle.std.proofs.Common.{◌∙◌, subst}
use Rattle.std.specs.Prelude.{Contains}
use Rattle.std.specs.List.{AllByRecursion}
use Rattle.std.specs.Option.{option_or}
use Rattle.std.proofs.lemmas.Slice.Eq.{bytes_eq-Decides}
use Rattle.sym_table.specs.Words.{operator_symbol}
use Rattle.term_model.specs.declared.symbols.Op.{Op}
use Rattle.term_model.specs.FreeVariables.{IsFree}
use Rattle.term_model.specs.Terms.{Var, Fun, Term, variable, operation, call, no_terms}
use Rattle.term_model.proofs.Lists.{contains_none, contains_cases, contains_head, contains_later}
use Rattle.problem_text.specs.Names.{Bound, Place, itself, innermost, function, operator, meaning_of}
use Rattle.problem_text.specs.PrintedTerms.{IsPrintable, IsUsable, MayLead}
use Rattle.problem_text.specs.Scripts.{Script}
use Rattle.problem_text.specs.Words.{operator_named}
use Rattle.readable_proofs.specs.Names.{IsWellNamed, IsOwnName, AllowsNames, vocabulary_of}
use Rattle.readable_proofs.specs.TermsOver.{BindsFree, IsTermOver}

-- what the law of lower crates says of printable terms
abbrev pub ArePrintableTerms : Type 0
ArePrintableTerms =
    (s : Script) (names : List (List ℕ)) (p : Place) (t : Term) → AllowsNames s names → p.settings.replaces_lets ≡ false →
    AllByRecursion (λ b. Contains names b.variable.name) p.scope → BindsFree p.scope t → IsTermOver (vocabulary_of s names) t → IsPrintable p s t

-- where the assertions of a printed problem are read, without a limit of heights
abbrev pub there : List Bound → Place
there scope = record { scope = scope; settings = record { replaces_lets = false; limit = None } }

same_name : (a b : List ℕ) → bytes_eq a b ≡ true → a ≡ b
same_name a b e = (bytes_eq-Decides a b).0 e

name_same : (a : List ℕ) → bytes_eq a a ≡ true
name_same a = (bytes_eq-Decides a a).1 refl

-- what is found is there, and passes the test
pub found_there : {X : Type 0} (test : X → Bool) (xs : List X) → IfSome (find test xs) (λ x. Contains xs x × (test x ≡ true))
found_there test [] = tt
found_there test (x ∷ xs) = go (test x) refl (found_there test xs)
  where
    go : (b : Bool) → test x ≡ b → IfSome (find test xs) (λ y. Contains xs y × (test y ≡ true))
        → IfSome (cond b (Some x) (find test xs)) (λ y. Contains (x ∷ xs) y × (test y ≡ true))
    go true e rest = (contains_head x xs, e)
    go false e rest = later (find test xs) rest
      where
        later : (o : Option _) → IfSome o (λ y. Contains xs y × (test y ≡ true)) → IfSome o (λ y. Contains (x ∷ xs) y × (test y ≡ true))
        later None h = tt
        later (Some y) h = (contains_later x y xs h.0, h.1)

module _ (printable : ArePrintableTerms) (z : Script) (well : IsWellNamed z) where
  no_variables : AllowsNames z []
  no_variables = record {
    well = well;
    own = λ name has. absurd (contains_none name has);
    apart = λ f is has. contains_none f.name has;
  }

  pub operator_leads : (op : Op) → MayLead (operator_symbol op)
  operator_leads op =
      (printable z [] (there []) (operation op no_terms) no_variables refl tt (λ x free. absurd free) tt).0

  pub function_leads : (f : Fun) → Contains z.functions f → MayLead f.name
  function_leads f is =
      (printable z [] (there []) (call f no_terms) no_variables refl tt (λ x free. absurd free) (is, tt)).0

  -- the script without functions
  abbrev bare : Script
  bare = record z { functions = [] }

  module _ (no_macros : z.macros ≡ []) (no_named : z.named ≡ []) where
    without_functions : (p : Place) (name : List ℕ) (op : Op) → innermost p.scope name ≡ None → meaning_of p z name ≡ Some (operator op)
        → meaning_of p bare name ≡ Some (operator op)
    unfolding meaning_of
    without_functions p name op none means = rw (none, no_named, no_macros) (go (find (λ (f : Fun). bytes_eq f.name name) z.functions) (sym shape ∙ means))
      where
        shape : meaning_of p z name ≡
            option_or (option_map function (find (λ (f : Fun). bytes_eq f.name name) z.functions)) (option_map operator (operator_named name))
        shape = rw (none, no_named, no_macros) refl

        go : (o : Option Fun) → option_or (option_map function o) (option_map operator (operator_named name)) ≡ Some (operator op)
            → option_map operator (operator_named name) ≡ Some (operator op)
        go None e = e
        go (Some f) e = absurd (cc)

    bare_well : IsWellNamed bare
    bare_well = record {
      operators = λ op p none. without_functions p (operator_symbol op) op none (well.operators op p none);
      functions = λ f is. absurd (contains_none f is);
      names = λ f is. absurd (contains_none f is);
      sorts = λ f is. absurd (contains_none f is);
    }

    found_itself : (x y : Var) → IsFree y (variable x) → innermost (itself x ∷ []) y.name ≡ Some (itself y)
    found_itself x y free =
        let same : bytes_eq x.name x.name ≡ true = name_same x.name in
        subst (λ v. innermost (itself x ∷ []) v.name ≡ Some (itself v)) free (rw same refl)

    pub name_usable : (x : Var) → IsOwnName x.name → IsUsable x.name
    name_usable x own =
        (printable bare (x.name ∷ []) (there (itself x ∷ [])) (variable x)
        (record {
          well = bare_well;
          own = λ name has. elim (contains_cases x.name name [] has) [ inl e ↦ subst IsOwnName e own | inr none ↦ absurd (contains_none name none) ];
          apart = λ f is. absurd (contains_none f is);
        }) refl (contains_head x.name [], tt) (found_itself x) tt).0.0
