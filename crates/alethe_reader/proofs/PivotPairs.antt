-- A term, and what stands behind it: where they end, and which pivot they are.
use Rattle.std.proofs.Common.{◌≡◌, ℕ, ◌<◌, ◌≤◌, arith, Bool, true, false, List, [], Option, Some, None, Result, Ok, Err, refl, sym, ap, subst, ◌∙◌}
use Rattle.std.proofs.lemmas.List.{append_assoc, append-nil}
use Rattle.std.specs.Prelude.{⊤, nat_lt}
use Rattle.std.proofs.lemmas.Bool.Decides.{nat_tests}
use Rattle.sexpr.specs.declared.causes.Refusal.{Refusal}
use Rattle.sexpr.specs.Items.{Item, Items, no_items, item}
use Rattle.sym_table.specs.Table.{Table, Keeps}
use Rattle.term_model.specs.Terms.{Var, Term}
use Rattle.term_pool.specs.Views.{TermsView, RefersTo, KeepsTerms}
use Rattle.term_pool.proofs.Keeping.{terms-refl}
use Rattle.rule_model.specs.Scopes.{Nesting}
use Rattle.proof_store.specs.Meaning.{IsPivotOf}
use Rattle.text_items.specs.declared.nodes.Node.{Node}
use Rattle.text_items.specs.ItemsAt.{ItemsView, end_at, item_at, items_at}
use Rattle.text_items.specs.Stepping.{EndBy, IsItemNode, has_two, HasSecond}
use Rattle.text_items.proofs.ItemsAtLemmas.{ends_behind as ends_after, items_are, no_items_are, first_and_others, end_by_rest}
use Rattle.problem_text.specs.Outcomes.{done, going_on, and_then}
use Rattle.problem_text.specs.TypedTerms.{Typed}
use Rattle.term_expansion.specs.declared.values.Value.{Value}
use Rattle.term_names.specs.declared.faults.ReadFault.{ReadFault}
use Rattle.term_reader.specs.ProblemViews.{ReaderView, IsReaderOf}
use Rattle.term_reader.proofs.Coming.{answers, same_outcome}
use Rattle.term_reader.proofs.Staying.{adds_none, refers_stays}
use Rattle.alethe_commands.specs.CommandNodes.{AreItemsAt}
use Rattle.alethe_text.specs.Arguments.{named_in, named_among, truth_of, with_pivot, pivots_from}
use Rattle.text_items.specs.Keywords.{behind_first}
use Rattle.alethe_text.specs.ProofTerms.{place_in, term_in}
use Rattle.alethe_text.specs.States.{ProofSettings, ProofState, Reading, ◌>>=◌, give}
use Rattle.alethe_reader.specs.Answers.{AnswersAs}
use Rattle.alethe_reader.specs.KeptReads.{KeepsRead}
use Rattle.alethe_reader.specs.Arguments.{AreNamed}
use Rattle.alethe_reader.specs.Pivots.{first_alone, EndsPair, truth_among, with_truth, pivot_read, one_pivot, both_lists, BothOrNeither, IsReadPivot}
use Rattle.alethe_reader.specs.ReadTerms.{IsReadValue}
use Rattle.alethe_reader.proofs.Answering.{stops, goes}
use Rattle.alethe_reader.proofs.StillRead.{keeps_give, keeps_then}
use Rattle.alethe_reader.proofs.StillReadCommands.{keeps_named_among}
use Rattle.term_expansion.specs.SymbolsAndTerms.{both}

-- what begins in an item ends in it, and so does the item
ends_in_itself : (items : ItemsView) (k : ℕ) (node : Node) → IsItemNode items k node → EndBy items k node.next
ends_in_itself items k node read j low high = go (nat_lt k j) refl
  where
    go : (b : Bool) → nat_lt k j ≡ b → end_at items j ≤ node.next
    go true e = let less : k < j = grind (arith, nat_tests) in read.nested j (omega (arith, less)) high
    go false e = let less : j ≤ k = grind (arith, nat_tests) in let same : j ≡ k = omega (arith, less, low) in omega (arith, ap (λ n. end_at items n) same, read.next)

none_behind_one : (i : Item) (others : Items) → has_two (item i others) ≡ false → others ≡ no_items
none_behind_one i no_items h = refl
none_behind_one i (item j rest) h = cc

-- where the two items end, or the one that there is
module _ (items : ItemsView) (k end : ℕ) (are : AreItemsAt items k end) where
  pub ends_behind : (second : ℕ) → HasSecond items k second end → (node : Node) → IsItemNode items second node → EndsPair items k node.next end
  ends_behind second h node read =
      let here : IsItemNode items (end_at items k) node = subst (λ n. IsItemNode items n node) h.here read in
      let less : end_at items k < end = omega (arith, h.less, h.here) in
      let within : node.next ≤ end = omega (arith, here.next, are.nested (end_at items k) (omega (arith, h.later, h.here)) less) in record {
        behind = omega (arith, here.behind);
        inside = within;
        nested = ends_in_itself items (end_at items k) node here;
        pair =
            first_and_others items (end_at items k) node.next node here here.behind here.inside
            ∙ ap (item (item_at items (end_at items k))) (no_items_are items node.next node.next (omega arith))
            ∙ ap first_alone (sym (items_are items (end_at items k) end less are.inside));
        others = ap behind_first (sym (first_and_others items (end_at items k) end node here less are.inside));
      }

  pub ends_alone : k < end → has_two (items_at items k end) ≡ false → EndsPair items k end end
  ends_alone less none =
      let rest : items_at items (end_at items k) end ≡ no_items = none_behind_one (item_at items k) (items_at items (end_at items k) end) (subst (λ xs. has_two xs ≡ false) (items_are items k end less are.inside) none) in record {
        behind = are.nested k (omega arith) less;
        inside = omega arith;
        nested = end_by_rest items k (end_at items k) end are.nested (omega (arith, ends_after items k));
        pair = rest ∙ ap first_alone (sym rest);
        others = no_items_are items end end (omega arith) ∙ ap behind_first (sym rest);
      }

module _ (settings : ProofSettings) (nesting : Nesting Var Term) (i : Item) (truth : Items) (p : ProofState) where
  -- the pivot that a term is with what stands behind it
  abbrev told : Typed → ⊤ → Reading (Option (Term × Bool))
  told t _ = give (with_truth t.tree (truth_among truth))

  abbrev behind_term : Typed → Reading (Option (Term × Bool))
  behind_term t = λ q. and_then (named_among settings nesting truth q) (told t)

  keeps_told : (t : Typed) (u : ⊤) → KeepsRead (told t u)
  keeps_told t u = keeps_give (with_truth t.tree (truth_among truth))

  keeps_behind : (t : Typed) → KeepsRead (behind_term t)
  unfolding ◌>>=◌
  keeps_behind t = keeps_then (named_among settings nesting truth) (told t) (keeps_named_among settings nesting truth) (keeps_told t)

  steps : pivot_read settings nesting i truth p ≡ and_then (term_in settings nesting i p) behind_term
  unfolding pivot_read ◌>>=◌
  steps = refl

  pub no_term : {s : Table} {v w : TermsView} {r : ReaderView} {N : Option (ℕ × Bool) → Option (Term × Bool) → ProofState → Type 0} {fault : ReadFault}
      → AnswersAs v (both s w) (IsReadValue (both s w) settings nesting r p) (term_in settings nesting i p) (Err fault) → AnswersAs v (both s w) N (pivot_read settings nesting i truth p) (Err fault)
  no_term h = same_outcome steps (stops behind_term keeps_behind h)

  module _ {s z : Table} {v w x : TermsView} {r q : ReaderView} (c : Value) (h : AnswersAs v (both s w) (IsReadValue (both s w) settings nesting r p) (term_in settings nesting i p) (Ok c)) (table : Keeps s z) (terms : KeepsTerms w x) (result : Result ⊤ ReadFault)
      (named : (t : ProofState) → IsReaderOf s w r t.script (place_in settings nesting) → AnswersAs w (both z x) (AreNamed (both z x) settings nesting q t) (named_among settings nesting truth t) result) where
    pub no_name : {N : Option (ℕ × Bool) → Option (Term × Bool) → ProofState → Type 0} (fault : ReadFault) → result ≡ Err fault → AnswersAs v (both z x) N (pivot_read settings nesting i truth p) (Err fault)
    no_name fault e =
        same_outcome steps
        (goes behind_term keeps_behind h table terms
        (λ t u k. stops (told t) (keeps_told t) (subst (λ (o : Result ⊤ ReadFault). AnswersAs w (both z x) (AreNamed (both z x) settings nesting q u) (named_among settings nesting truth u) o) e (named u k.behind.reader))))

    is_pivot : (t : Term) → RefersTo z x c.term t → (b : Option Bool) → BothOrNeither (IsPivotOf z x) (with_truth c.term b) (with_truth t b)
    is_pivot t refers None = tt
    is_pivot t refers (Some b) = record { term = refers; truth = refl }

    pub pivot_told : (b : Option Bool) → b ≡ truth_among truth → result ≡ Ok tt → AnswersAs v (both z x) (IsReadPivot (both z x) settings nesting q p) (pivot_read settings nesting i truth p) (Ok (with_truth c.term b))
    pivot_told b same e =
        same_outcome steps
        (goes behind_term keeps_behind h table terms
        (λ t u k. goes (told t) (keeps_told t) (subst (λ (o : Result ⊤ ReadFault). AnswersAs w (both z x) (AreNamed (both z x) settings nesting q u) (named_among settings nesting truth u) o) e (named u k.behind.reader)) (adds_none z).keeps (terms-refl x)
        (λ _ y l. answers (with_truth t.tree (truth_among truth)) y refl refl (record {
          stands =
              subst (λ o. BothOrNeither (IsPivotOf z x) (with_truth c.term b) (with_truth t.tree o)) same
              (is_pivot t.tree (refers_stays s z w x table terms c.term t.tree k.is.refers) b);
          behind = record { reader = l.behind.reader; scope = l.behind.scope ∙ k.behind.scope; anchors = l.behind.anchors ∙ k.behind.anchors };
        }))))

-- the pivots of some arguments are the pivot of the first two, and those of the others behind it
with_same : (t : Term) (truth : Option Bool) (pivots : Option (List (Term × Bool))) → with_pivot t truth pivots ≡ both_lists (one_pivot (with_truth t truth)) pivots
with_same t None pivots = refl
with_same t (Some b) None = refl
with_same t (Some b) (Some pivots) = refl

module _ (settings : ProofSettings) (nesting : Nesting Var Term) where
  -- what is left of the arguments behind a pivot
  abbrev pub others_behind : Items → Option (Term × Bool) → Reading (Option (List (Term × Bool)))
  others_behind others pivot = λ u. and_then (pivots_from settings nesting others u) (λ pivots. give (both_lists (one_pivot pivot) pivots))

  -- nothing is answered of the names
  abbrev no_answer : ⊤ → Reading ⊤
  no_answer _ = give tt

  pub pair_split : (i : Item) (others : Items) (p : ProofState) → pivots_from settings nesting (item i others) p ≡ and_then (pivot_read settings nesting i (first_alone others) p) (others_behind (behind_first others))
  unfolding pivots_from pivot_read named_in ◌>>=◌
  pair_split i no_items p = go (term_in settings nesting i p).result (term_in settings nesting i p).state
    where
      go : (r : Result Typed Refusal) (s : ProofState) → going_on r s (λ _. give None) ≡ and_then (going_on r s (λ t u. and_then (named_among settings nesting no_items u) (λ _. give (with_truth t.tree None)))) (others_behind no_items)
      go (Ok t) s = refl
      go (Err refusal) s = refl
  pair_split i (item truth rest) p = go (term_in settings nesting i p).result (term_in settings nesting i p).state
    where
      last : (t : Typed) (r : Result (Option (List (Term × Bool))) Refusal) (s : ProofState) → going_on r s (λ pivots. give (with_pivot t.tree (truth_of truth) pivots)) ≡ going_on r s (λ pivots. give (both_lists (one_pivot (with_truth t.tree (truth_of truth))) pivots))
      last t (Ok pivots) s = ap (λ x. done x s) (with_same t.tree (truth_of truth) pivots)
      last t (Err refusal) s = refl

      next : (t : Typed) (r : Result ⊤ Refusal) (s : ProofState)
          → going_on r s (λ _ u. and_then (pivots_from settings nesting rest u) (λ pivots. give (with_pivot t.tree (truth_of truth) pivots)))
          ≡ and_then (and_then (going_on r s no_answer) (λ _. give (with_truth t.tree (truth_of truth)))) (others_behind rest)
      next t (Ok u) s = last t (pivots_from settings nesting rest s).result (pivots_from settings nesting rest s).state
      next t (Err refusal) s = refl

      go : (r : Result Typed Refusal) (s : ProofState)
          → going_on r s (λ t u. and_then (named_in settings nesting truth u) (λ _ w. and_then (pivots_from settings nesting rest w) (λ pivots. give (with_pivot t.tree (truth_of truth) pivots))))
          ≡ and_then (going_on r s (λ t u. and_then (named_among settings nesting (item truth no_items) u) (λ _. give (with_truth t.tree (truth_of truth))))) (others_behind rest)
      go (Ok t) s = next t (named_in settings nesting truth s).result (named_in settings nesting truth s).state
      go (Err refusal) s = refl

-- lists one behind another
pub both_assoc : {A : Type 0} (a b c : Option (List A)) → both_lists (both_lists a b) c ≡ both_lists a (both_lists b c)
both_assoc None b c = refl
both_assoc (Some xs) None c = refl
both_assoc (Some xs) (Some ys) None = refl
both_assoc (Some xs) (Some ys) (Some zs) = ap Some (append_assoc xs ys zs)

pub none_before : {A : Type 0} (a : Option (List A)) → both_lists (Some []) a ≡ a
none_before None = refl
none_before (Some xs) = refl

pub none_behind : {A : Type 0} (a : Option (List A)) → both_lists a (Some []) ≡ a
none_behind None = refl
none_behind (Some xs) = ap Some (append-nil xs)
