-- What holds behind the reading of a term, where it ends without a fault; and scripts whose terms are over their vocabularies.
use Rattle.std.proofs.Common.{◌≡◌, inl, inr, ℕ, true, false, Result, Ok, Err, List, [], ◌∷◌, refl, ◌∙◌, subst}
use Rattle.std.specs.Prelude.{⊤, Contains}
use Rattle.std.specs.List.{AllByRecursion}
use Rattle.std.proofs.lemmas.List.Elements.{Contains-append_left, Contains-append_right, Contains-push_cases}
use Rattle.sexpr.specs.declared.causes.Refusal.{Refusal}
use Rattle.term_model.specs.FreeVariables.{IsFree}
use Rattle.term_model.specs.Terms.{Var, Fun, Term}
use Rattle.term_model.proofs.Lists.{contains_head, all_at_end}
use Rattle.rule_model.specs.RuleNames.{IsSymbolName}
use Rattle.problem_text.specs.Names.{Place, is_bound}
use Rattle.problem_text.specs.Outcomes.{Outcome, going_on, and_then}
use Rattle.problem_text.specs.Scripts.{Macro, Named, Script, with_named, with_term, with_let_name}
use Rattle.problem_text.specs.Soundness.{AreThemselves}
use Rattle.problem_text.specs.Words.{is_built_in}
use Rattle.readable_proofs.specs.Names.{IsOwnName, Vocabulary, vocabulary_of, AreOwnNames, IsVocabularyWithin}
use Rattle.readable_proofs.specs.TermsOver.{IsTermOver}
use Rattle.readable_proofs.proofs.Names.{symbol_named, all_more}
use Rattle.readable_proofs.proofs.Replaced.{still_of}

-- Q of what was read and of the state behind it
abbrev pub AfterRead : {S A : Type 0} → (A → S → Type 0) → Result A Refusal → S → Type 0
AfterRead Q (Ok a) s = Q a s
AfterRead Q (Err refusal) s = ⊤

abbrev pub Reads : {S A : Type 0} → (A → S → Type 0) → Outcome S A → Type 0
Reads Q o = AfterRead Q o.result o.state

pub goes_on : {S A B : Type 0} (Q : A → S → Type 0) (R : B → S → Type 0) (r : Result A Refusal) (s : S) (next : A → S → Outcome S B)
    → AfterRead Q r s → ((a : A) (u : S) → Q a u → Reads R (next a u)) → Reads R (going_on r s next)
goes_on Q R (Ok a) s next h k = k a s h
goes_on Q R (Err refusal) s next h k = tt

-- one reading and then another
pub reads_then : {S A B : Type 0} (Q : A → S → Type 0) (R : B → S → Type 0) (o : Outcome S A) (next : A → S → Outcome S B) → Reads Q o
    → ((a : A) (u : S) → Q a u → Reads R (next a u)) → Reads R (and_then o next)
reads_then Q R o next h k = goes_on Q R o.result o.state next h k

-- the vocabulary of a script: its functions, and the names that lets and anchors bound
abbrev pub words_of : Script → Vocabulary
words_of s = vocabulary_of s s.let_names

-- a macro whose body is over a vocabulary, and has no free variables but its parameters
pub record IsOwnMacro (v : Vocabulary) (m : Macro) : Type 0 where
  pub of : IsTermOver v m.body
  pub scoped : (x : Var) → IsFree x m.body → Contains m.parameters x

pub record HasOwnTerms (s : Script) : Type 0 where
  pub named : AllByRecursion (λ n. IsTermOver (words_of s) n.meant.tree) s.named
  pub macros : AllByRecursion (IsOwnMacro (words_of s)) s.macros
  pub names : AreOwnNames s.let_names

-- what reading a term leaves as it is, and adds to
pub record Grows (s u : Script) : Type 0 where
  pub functions : s.functions ≡ u.functions
  pub macros : s.macros ≡ u.macros
  pub names : (name : List ℕ) → Contains s.let_names name → Contains u.let_names name

pub grown_same : (s : Script) → Grows s s
grown_same s = record { functions = refl; macros = refl; names = λ name there. there }

pub grown_then : (s t u : Script) → Grows s t → Grows t u → Grows s u
grown_then s t u g h = record {
  functions = g.functions ∙ h.functions;
  macros = g.macros ∙ h.macros;
  names = λ name there. h.names name (g.names name there);
}

pub grown_within : (s u : Script) → Grows s u → IsVocabularyWithin (words_of s) (words_of u)
grown_within s u g = record {
  functions = λ f there. subst (λ (fs : List Fun). Contains fs f) g.functions there;
  variables = g.names;
}

pub still_read : (s u : Script) (t : Term) → Grows s u → IsTermOver (words_of s) t → IsTermOver (words_of u) t
still_read s u t g h = still_of (words_of s) (words_of u) (grown_within s u g) t h

pub macro_still : (s u : Script) (m : Macro) → Grows s u → IsOwnMacro (words_of s) m → IsOwnMacro (words_of u) m
macro_still s u m g h = record { of = still_read s u m.body g h.of; scoped = h.scoped }

-- a term, a name of a term and the name of a variable more
pub term_owned : (t : Term) (s : Script) → HasOwnTerms s → HasOwnTerms (with_term t s)
term_owned t s own = record { named = own.named; macros = own.macros; names = own.names }

pub naming_owned : (n : Named) (s : Script) → HasOwnTerms s → IsTermOver (words_of s) n.meant.tree → HasOwnTerms (with_named n s)
naming_owned n s own h = record {
  named = all_at_end (λ n. IsTermOver (words_of s) n.meant.tree) s.named n own.named h;
  macros = own.macros;
  names = own.names;
}

pub let_name_grown : (name : List ℕ) (s : Script) → Grows s (with_let_name name s)
let_name_grown name s = record {
  functions = refl;
  macros = refl;
  names = λ other there. Contains-append_left s.let_names (name ∷ []) other there;
}

pub own_name : (name : List ℕ) → IsSymbolName name → is_built_in name ≡ false → IsOwnName name
own_name name symbol free = record { symbol = symbol_named name symbol; free_word = free }

pub let_name_owned : (name : List ℕ) (s : Script) → HasOwnTerms s → IsOwnName name → HasOwnTerms (with_let_name name s)
let_name_owned name s own is =
    let u : Script = with_let_name name s in
    let g = let_name_grown name s in
    record {
      named =
          all_more (λ n. IsTermOver (words_of s) n.meant.tree) (λ n. IsTermOver (words_of u) n.meant.tree) s.named
          (λ n h. still_read s u n.meant.tree g h) own.named;
      macros = all_more (IsOwnMacro (words_of s)) (IsOwnMacro (words_of u)) s.macros (λ m h. macro_still s u m g h) own.macros;
      names = λ other there. elim (Contains-push_cases s.let_names name other there) [
        | inl before ↦ own.names other before
        | inr same ↦ subst IsOwnName same is
      ];
    }

pub let_name_there : (name : List ℕ) (s : Script) → Contains (with_let_name name s).let_names name
let_name_there name s = Contains-append_right s.let_names (name ∷ []) name (contains_head name [])

-- where lets are kept, the place binds the term's free variables
abbrev pub IsFreeBoundIn : Place → Term → Type 0
IsFreeBoundIn p t = p.settings.replaces_lets ≡ false → (x : Var) → IsFree x t → is_bound p.scope x ≡ true

-- Where what variables stand for is over the script's vocabulary.
pub record IsOwnPlace (s : Script) (p : Place) : Type 0 where
  pub of : AllByRecursion (λ b. IsTermOver (words_of s) b.stands_for) p.scope
  pub themselves : AreThemselves p

pub place_still : (s u : Script) (p : Place) → Grows s u → IsOwnPlace s p → IsOwnPlace u p
place_still s u p g here = record {
  of =
      all_more (λ b. IsTermOver (words_of s) b.stands_for) (λ b. IsTermOver (words_of u) b.stands_for) p.scope
      (λ b h. still_read s u b.stands_for g h) here.of;
  themselves = here.themselves;
}
