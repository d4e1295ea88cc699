-- Private. The reply to a question: by the first way that is open, at most one, and nothing where none is open.
use Rattle.std.proofs.Common.{◌≡◌, inl, inr, ℕ, ◌+◌, ◌^◌, ◌≤◌, ◌<◌, Bool, false, List, [], ◌∷◌, length, map, Option, Some, None, IfSome}
use Rattle.std.proofs.Common.{Vec, ap, sym, subst, arith, ◌∙◌}
use Rattle.std.specs.declared.alloc.Global.{Global}
use Rattle.std.specs.List.{AllByRecursion}
use Rattle.std.proofs.lemmas.Bool.{cases_lt}
use Rattle.std.proofs.lemmas.List.{length-map}
use Rattle.std.proofs.lemmas.List.Elements.{All-from_recursion}
use Rattle.pair_pool.specs.Views.{PoolView, PassView}
use Rattle.sym_table.specs.Table.{Table}
use Rattle.term_model.specs.declared.symbols.Sort.{Sort}
use Rattle.term_model.specs.Sorts.{IsOf}
use Rattle.term_model.specs.Terms.{Var, Term, not_of}
use Rattle.term_pool.specs.Views.{TermsView, ReferToAll}
use Rattle.term_parts.specs.Judging.{StandForTruths}
use Rattle.rule_model.specs.Proofs.{ProofItems}
use Rattle.problem_text.specs.Problems.{StandsForProblem}
use Rattle.problem_text.specs.Scripts.{Script}
use Rattle.problem_text.specs.Soundness.{IsSound, IsRead}
use Rattle.fillers.specs.Books.{reply_bytes}
use Rattle.hole_fillers.specs.Questions.{most_bytes}
use Rattle.accepted_replies.specs.Refutations.{reply_text, IsAccepted}
use Rattle.question_reading.specs.Questions.{IsLeftOut, long}
use Rattle.rule_filler.specs.Denials.{IsTextOfSome}
use Rattle.rule_filler.specs.Filling.{denied_clause, ways, one_rule, IsOpen, IsByFirst, IsReplyTo, IsAnswerTo}
use Rattle.rule_filler.proofs.DenialLemmas.{denied_few}
use Rattle.rule_filler.proofs.OneRule.{IsOneRule, one_proof}

-- THE FIRST WAY

-- there is one way
pub only_way : (script : Script) (proof : ProofItems Var Term) → IsByFirst ways script proof → IsOpen script one_rule proof
only_way script proof (inl is_open) = is_open
only_way script proof (inr later) = absurd later.1

pub by_first : (script : Script) (found : Option (List ℕ)) → IsTextOfSome script (IsOpen script one_rule) found
    → IsTextOfSome script (IsByFirst ways script) found
by_first script None none = λ proof first. none proof (only_way script proof first)
by_first script (Some bytes) some = (some.0, inl some.1, some.2)

-- ONE REPLY

abbrev pub HasOneReading : Type 0
HasOneReading = (source : List ℕ) (replaces : Bool) (s t : Script) → StandsForProblem source replaces s → StandsForProblem source replaces t → s ≡ t

one_text : IsOneRule → (script : Script) (p q : ProofItems Var Term) → IsByFirst ways script p → IsByFirst ways script q
    → reply_text script p ≡ reply_text script q
one_text one script p q first other =
    let shown = (only_way script p first).shows in
    let also = (only_way script q other).shows in
    ap (reply_text script) (one_proof one (denied_clause script.assertions) also.rule p also.first shown ∙ sym also.by_rule)

pub one_reply : HasOneReading → IsOneRule → (question a b : List ℕ) → IsReplyTo question a → IsReplyTo question b → a ≡ b
one_reply reading one question a b x y =
    let same = reading question false x.script y.script x.stands y.stands in
    x.text
    ∙ (subst (λ t. (q : ProofItems Var Term) → IsByFirst ways t q → reply_text x.script x.proof ≡ reply_text t q) same
    (λ q other. one_text one x.script x.proof q x.by_first other) y.proof y.by_first ∙ sym y.text)

-- THE ANSWER TO A QUESTION

pub answered : HasOneReading → (question : List ℕ) (script : Script) → StandsForProblem question false script → (IsLeftOut question → ⊥)
    → (found : Option (List ℕ)) → IsTextOfSome script (IsByFirst ways script) found → IsAnswerTo question found
answered reading question script stands read None none = λ bytes reply.
    subst (λ t. (p : ProofItems Var Term) → IsByFirst ways t p → ⊥) (reading question false script reply.script stands reply.stands) none reply.proof
    reply.by_first
answered reading question script stands read (Some bytes) some =
    record { script = script; stands = stands; not_left_out = read; proof = some.0; by_first = some.1; text = some.2 }

pub accepted_answer : (question : List ℕ)
    → ((bytes : List ℕ) (unknown_are_holes : Bool) → IsReplyTo question bytes → IsAccepted question unknown_are_holes bytes)
    → (found : Option (Vec ℕ Global)) → IsAnswerTo question (reply_bytes found)
    → IfSome found (λ bytes. (unknown_are_holes : Bool) → IsAccepted question unknown_are_holes bytes.items)
accepted_answer question law None answer = tt
accepted_answer question law (Some bytes) answer = λ unknown_are_holes. law bytes.items unknown_are_holes answer

-- less terms are assumed than commands can be
pub few_assumed : (question : List ℕ) (script : Script) → (IsLeftOut question → ⊥) → length script.assertions ≤ length question
    → length (map not_of (denied_clause script.assertions)) + 2 ≤ 2 ^ 32
few_assumed question script read few =
    let same = length-map (denied_clause script.assertions) not_of in
    let less = denied_few script.assertions in
    elim (cases_lt most_bytes (length question)) [
      | inl over ↦ absurd (read (long over))
      | inr short ↦ omega (arith, same, less, few, short)
    ]

-- WHAT IS READ

sound_truths : (ts : List Term) → AllByRecursion (λ t. IsRead (record { tree = t; sort = Sort.Bool })) ts → AllByRecursion (λ t. IsOf t Sort.Bool) ts
sound_truths [] h = tt
sound_truths (t ∷ ts) h = (h.0.sorted, sound_truths ts h.1)

pub truths_of : (script : Script) (s : Table) (v : TermsView) (refs : List ℕ) → IsSound script → ReferToAll s v refs script.assertions
    → StandForTruths s v refs
truths_of script s v refs sound refers = record {
  clause = script.assertions;
  refer = refers;
  truths = All-from_recursion (λ t. IsOf t Sort.Bool) script.assertions (sound_truths script.assertions sound.assertions);
}

-- a view by its parts
abbrev seen : PoolView → PassView → TermsView
seen pool pass = record { pool = pool; pass = pass }

pub same_view : (v : TermsView) (pool : PoolView) (pass : PassView) → v.pool ≡ pool → v.pass ≡ pass → v ≡ record { pool = pool; pass = pass }
same_view v pool pass e f = ap (λ p. seen p v.pass) e ∙ ap (λ q. seen pool q) f
