-- Private. A reply can be read behind the script whose assertions it assumes.
use Rattle.std.proofs.Common.{inl, inr, ◌+◌, ◌≤◌, ◌^◌, List, [], ◌∷◌, length, Contains}
use Rattle.std.proofs.Common.{refl, sym, subst, arith}
use Rattle.std.specs.Prelude.{Any}
use Rattle.std.specs.List.{AllByRecursion}
use Rattle.std.proofs.lemmas.List.Elements.{All-from_recursion}
use Rattle.std.proofs.lemmas.List.Sums.{AllPass-from_list_all}
use Rattle.sexpr.specs.Characters.{is_between_bars}
use Rattle.sexpr.proofs.PrintedItems.{symbol_is}
use Rattle.sym_table.specs.Words.{operator_symbol}
use Rattle.term_model.specs.declared.symbols.Op.{Op}
use Rattle.term_model.specs.declared.symbols.Sort.{Sort}
use Rattle.term_model.specs.Heights.{height}
use Rattle.term_model.specs.Sorts.{AreOf}
use Rattle.term_model.specs.Terms.{Var, Term, no_terms, term, not_of}
use Rattle.term_model.proofs.Arities.{negation_sort}
use Rattle.term_model.proofs.Lists.{all_joined, contains_none}
use Rattle.rule_model.specs.Commands.{lines_in}
use Rattle.rule_model.specs.Elaboration.{IsLowLine, IsLowProof}
use Rattle.rule_model.specs.Proofs.{ProofItems, no_items, with_step}
use Rattle.rule_model.specs.Scopes.{outermost}
use Rattle.rule_model.specs.WellFormed.{HasRule}
use Rattle.problem_text.specs.Limits.{most_height}
use Rattle.problem_text.specs.PrintedTerms.{MayLead}
use Rattle.problem_text.specs.Scripts.{Script}
use Rattle.printed_proofs.specs.Naming.{IsApart}
use Rattle.printed_proofs.specs.Readable.{IsTermReadable, AreReadable}
use Rattle.readable_proofs.specs.Names.{IsWellNamed}
use Rattle.readable_proofs.specs.ProofsOver.{HaveRatios, printed_settings}
use Rattle.reread_laws.specs.EachCommand.{HasNoPivots}
use Rattle.accepted_replies.specs.Refutations.{CanBeRead}
use Rattle.accepted_replies.specs.Replies.{Inference, assumed_behind, assumes_behind, inferring}
use Rattle.accepted_replies.specs.Replies.{resolving, reply_of, IsNegation, IsAnswer, AreAssertionsReadable}
use Rattle.accepted_replies.proofs.ReplyForm.{reply_formed}
use Rattle.accepted_replies.proofs.ReplyLines.{assume_lines, lines_assumed, count}

-- what is so of all items is so of each
pub one_of : {X : Type 0} (P : X → Type 0) (xs : List X) (x : X) → AllByRecursion P xs → Contains xs x → P x
one_of P xs x h (k, within, there) = subst P there (All-from_recursion P xs h k x within)

pub each_of : {X : Type 0} (P : X → Type 0) (xs ys : List X) → AllByRecursion P xs → AllByRecursion (Contains xs) ys → AllByRecursion P ys
each_of P xs [] h within = tt
each_of P xs (y ∷ ys) h within = (one_of P xs y h within.0, each_of P xs ys h within.1)

pub each_has : {X : Type 0} (P : X → X → Type 0) (xs ys : List X) → AllByRecursion (λ y. Any (λ x. P x y) xs) ys → (Q : X → Type 0) → AllByRecursion Q xs
    → ((x y : X) → P x y → Q x → Q y) → AllByRecursion Q ys
each_has P xs [] some Q all step = tt
each_has P xs (y ∷ ys) some Q all step =
    (one y some.0, each_has P xs ys some.1 Q all step)
  where
    one : (y : _) → Any (λ x. P x y) xs → Q y
    one y (k, x, within, there, p) = step x y p (one_of Q xs x all (k, within, there))

negation_leads : MayLead (operator_symbol Op.Not)
negation_leads = record {
  usable = refl;
  no_let = refl;
  no_mark = refl;
  symbol = symbol_is (operator_symbol Op.Not) (AllPass-from_list_all is_between_bars (operator_symbol Op.Not) refl);
}

module _ (s : Script) (well : IsWellNamed s) where
  abbrev IsFormula : Term → Type 0
  IsFormula t = IsTermReadable printed_settings [] s outermost t Sort.Bool

  nothing_apart : (t : Term) → IsApart [] t
  nothing_apart t = λ n has. absurd (contains_none n has)

  negated : (t : Term) → IsFormula t → IsFormula (not_of t)
  negated t h = record {
    sorted = record { sorts = Sort.Bool ∷ []; arguments = (h.sorted, tt); is = refl };
    printable = (negation_leads, well.operators Op.Not _ refl, (h.printable, tt));
    apart = nothing_apart (not_of t);
  }

  denied : (t : Term) → IsFormula (not_of t) → IsFormula t
  denied t h =
      let sorts = ((negation_sort h.sorted.sorts Sort.Bool).0 h.sorted.is).0 in
      record {
        sorted = (subst (AreOf (term t no_terms)) sorts h.sorted.arguments).0;
        printable = h.printable.2.0;
        apart = nothing_apart t;
      }

  opposite : (t l : Term) → IsNegation t l → IsFormula t → IsFormula l
  opposite t l (inl e) h = subst IsFormula (sym e) (negated t h)
  opposite t l (inr e) h = denied l (subst IsFormula e h)

  readable_assumes : (items : ProofItems Var Term) (ts : List Term) → AreReadable printed_settings [] s outermost items → AllByRecursion IsFormula ts
      → AreReadable printed_settings [] s outermost (assumes_behind items ts)
  readable_assumes items [] h all = h
  readable_assumes items (t ∷ ts) h all = readable_assumes (assumed_behind items t) ts (h, all.0) all.1

  -- no pivots
  plain_assumes : (items : ProofItems Var Term) (ts : List Term) → HasNoPivots items → HasNoPivots (assumes_behind items ts)
  plain_assumes items [] h = h
  plain_assumes items (t ∷ ts) h = plain_assumes (assumed_behind items t) ts (h, tt)

  -- heights
  low_assumes : (items : ProofItems Var Term) (ts : List Term) → AllByRecursion (λ t. height t ≤ most_height) ts
      → AllByRecursion (IsLowLine most_height) (assume_lines items ts)
  low_assumes items [] low = tt
  low_assumes items (t ∷ ts) low = (
    record {
      clause = All-from_recursion (λ t. height t ≤ most_height) (t ∷ []) (low.0, tt);
      pivots = All-from_recursion _ [] tt;
      images = All-from_recursion _ [] tt;
    },
    low_assumes (assumed_behind items t) ts low.1,
  )

  module _ (assumed : List Term) (x : Inference Term) (answer : IsAnswer s assumed x) (formulas : AreAssertionsReadable s)
      (low : AllByRecursion (λ t. height t ≤ most_height) s.assertions) (ratios : HaveRatios (reply_of assumed x))
      (few : length assumed + 2 ≤ 2 ^ 32) (rule : HasRule (inferring (length assumed) x)) (last : HasRule (resolving {T = Term} (length assumed))) where
    abbrev whole : ProofItems Var Term
    whole = reply_of assumed x

    all_low : IsLowProof most_height whole
    all_low =
        All-from_recursion (IsLowLine most_height) (lines_in outermost whole)
        (all_joined (IsLowLine most_height) (lines_in outermost (with_step (assumes_behind no_items assumed) (inferring (length assumed) x))) _
        (all_joined (IsLowLine most_height) (lines_in outermost (assumes_behind no_items assumed)) _
        (subst (AllByRecursion (IsLowLine most_height)) (sym (lines_assumed no_items assumed))
        (low_assumes no_items assumed (each_of (λ t. height t ≤ most_height) s.assertions assumed low answer.asserted))) (
          record {
            clause = All-from_recursion (λ t. height t ≤ most_height) x.clause answer.low;
            pivots = All-from_recursion _ [] tt;
            images = All-from_recursion _ [] tt;
          },
          tt,
        )) (
          record {
            clause = All-from_recursion _ [] tt;
            pivots = All-from_recursion _ [] tt;
            images = All-from_recursion _ [] tt;
          },
          tt,
        ))

    assumed_formulas : AllByRecursion IsFormula assumed
    assumed_formulas = each_of IsFormula s.assertions assumed formulas answer.asserted

    pub can_be_read : CanBeRead s whole
    can_be_read = record {
      formed = reply_formed Var assumed x few rule last;
      few = let all = count Var assumed x in omega (arith, all, few);
      readable = (
        (
          readable_assumes no_items assumed tt assumed_formulas,
          record {
            clause = each_has IsNegation assumed x.clause answer.denied IsFormula assumed_formulas opposite;
            pivots = tt;
            coefficients = ratios.0.1;
          },
        ),
        record { clause = tt; pivots = tt; coefficients = ratios.1 },
      );
      low = all_low;
      no_pivots = ((plain_assumes no_items assumed tt, refl), refl);
    }
