-- The arguments of an anchor, one after another.
use Rattle.std.proofs.Common.{◌≡◌, ◌<◌, ℕ, List, [], ◌∷◌, ◌++◌, map, length, None, Ok, Err, refl, sym, ap, subst, ◌∙◌}
use Rattle.std.specs.List.{AllZip}
use Rattle.std.proofs.lemmas.List.{append_assoc, append-nil}
use Rattle.sym_table.specs.Table.{Table}
use Rattle.term_model.specs.Terms.{Var, Term}
use Rattle.term_model.proofs.Basics.{or_none}
use Rattle.term_pool.specs.Views.{TermsView, KeepsTerms}
use Rattle.term_pool.specs.Bindings.{IsBindingOf}
use Rattle.text_items.specs.ItemsAt.{ItemsView, end_at, item_at, items_at}
use Rattle.text_items.proofs.ItemsAtLemmas.{items_are}
use Rattle.problem_text.specs.Outcomes.{Outcome, done, and_then}
use Rattle.problem_text.specs.Words.{is_among}
use Rattle.term_pool.specs.Placing.{PlacesCellsOf}
use Rattle.term_pool.proofs.PlacedCells.{places_none}
use Rattle.term_names.specs.Standing.{AddsNoSymbols}
use Rattle.term_names.specs.declared.faults.ReadFault.{ReadFault}
use Rattle.term_reader.specs.ProblemViews.{ReaderView, IsReaderOf}
use Rattle.term_reader.proofs.Coming.{IsPartOf}
use Rattle.term_reader.proofs.Staying.{adds_then}
use Rattle.alethe_commands.specs.CommandNodes.{AreArgumentsAt}
use Rattle.alethe_text.specs.Anchors.{bound_names, argument_read, arguments_read}
use Rattle.alethe_text.specs.Commands.{Argument, argument_fault, each_argument_fault, argument_of, arguments_in}
use Rattle.alethe_text.specs.ProofTerms.{place_in}
use Rattle.alethe_text.specs.States.{ProofSettings, ProofState, Reading, ◌>>=◌, give}
use Rattle.alethe_reader.specs.Answers.{terms_in, WasRead, AnswersAs}
use Rattle.alethe_reader.specs.Ids.{IdsView}
use Rattle.alethe_reader.specs.KeptReads.{KeepsRead}
use Rattle.alethe_reader.specs.Bound.{AreAnchorsBound, images_in}
use Rattle.alethe_reader.specs.Opening.{IsOpening, IsSameScope, IsArgumentRead, AreArgumentsRead}
use Rattle.alethe_reader.specs.declared.bound.BoundVariables.{BoundVariables}
use Rattle.alethe_reader.proofs.Answering.{part_of_whole, placed_with, fails_with}
use Rattle.alethe_reader.proofs.LeftToRead.{and_then_then, and_then_same, and_then_give}
use Rattle.alethe_reader.proofs.StillRead.{keeps_give, keeps_then as keeps_both}
use Rattle.alethe_reader.proofs.StillReadCommands.{keeps_each_argument}
use Rattle.term_expansion.specs.SymbolsAndTerms.{both}

-- the first of the arguments that are left, and the others
module _ (items : ItemsView) (k : ℕ) (h : AreArgumentsAt items k (length items.nodes)) (less : k < length items.nodes) where
  fit_both : (argument_fault (item_at items k) ≡ None) × (each_argument_fault (items_at items (end_at items k) (length items.nodes)) ≡ None)
  fit_both = or_none _ _ (sym (ap each_argument_fault (items_are items k (length items.nodes) less h.inside)) ∙ h.fit)

  pub first_fits : argument_fault (item_at items k) ≡ None
  first_fits = fit_both.0

  pub others_fit : (next : ℕ) → next ≡ end_at items k → AreArgumentsAt items next (length items.nodes)
  others_fit next is = rw is (record { inside = h.inside; fit = fit_both.1 })

  pub first_split : (next : ℕ) → next ≡ end_at items k → arguments_in (items_at items k (length items.nodes)) ≡ argument_of (item_at items k) ∷ arguments_in (items_at items next (length items.nodes))
  first_split next is = rw is (ap arguments_in (items_are items k (length items.nodes) less h.inside))

-- outcomes one after another
regrouped : (read : List (Var × Term)) (b : Var × Term) (o : Outcome ProofState (List (Var × Term)))
    → and_then (and_then o (λ bs. give (b ∷ bs))) (λ more. give (read ++ more)) ≡ and_then o (λ more. give ((read ++ b ∷ []) ++ more))
regrouped read b o = and_then_then o _ _ ∙ and_then_same o _ _ (λ more s. ap (λ cs. done cs s) (sym (append_assoc read (b ∷ []) more)))

module _ (settings : ProofSettings) (earlier : List (List ℕ)) (rest : List Argument) where
  abbrev behind_one : Var × Term → Reading (List (Var × Term))
  behind_one b = arguments_read settings (b.0.name ∷ earlier) rest >>= λ bs. give (b ∷ bs)

  keeps_behind : (b : Var × Term) → KeepsRead (behind_one b)
  keeps_behind b = keeps_both _ _ (keeps_each_argument settings (b.0.name ∷ earlier) rest) (λ bs. keeps_give _)

abbrev behind_all : List (Var × Term) → List (Var × Term) → Reading (List (Var × Term))
behind_all read more = give (read ++ more)

keeps_all : (read more : List (Var × Term)) → KeepsRead (behind_all read more)
keeps_all read more = keeps_give _

-- What is left of the arguments comes to this, behind those that were read.
pub record AreLeft (settings : ProofSettings) (z : Table) (v w : TermsView) (t : ReaderView) (e : BoundVariables) (p : ProofState) (left : List Argument) (whole : Outcome ProofState (List (Var × Term))) : Type 0 where
  pub earlier : List (List ℕ)
  pub read : List (Var × Term)
  pub now : ProofState
  pub opening : IsOpening (both z w) settings t e earlier read now
  pub same : IsSameScope p now
  pub comes : and_then (arguments_read settings earlier left now) (λ more. give (read ++ more)) ≡ whole
  pub placed : PlacesCellsOf z v.pass w.pass (WasRead whole)

pub begins : (s : Table) (v : TermsView) (r : ReaderView) (d e : BoundVariables) → e.names ≡ d.names → e.images ≡ d.images → e.opened.items ≡ [] → (settings : ProofSettings) (p : ProofState) (left : List Argument)
    → IsReaderOf s v r p.script (place_in settings p.scope.nesting) → AreAnchorsBound (both s v) d p.scope.nesting → AreLeft settings s v v r e p left (arguments_read settings [] left p)
begins s v r d e names images opened settings p left reader bound = record {
  earlier = [];
  read = [];
  now = p;
  opening = record {
    reader = reader;
    names = named ∙ sym (append-nil (bound_names p.scope.nesting));
    judged = λ name. ap (λ ns. is_among ns name) (sym named);
    images = rw images (subst (λ qs. AllZip (IsBindingOf s v) d.images.items qs) (sym (append-nil (images_in p.scope.nesting))) bound.images);
    opened = rw opened tt;
    apart = bound.apart;
    fresh = tt;
  };
  same = record { scope = refl; anchors = refl };
  comes = and_then_give (arguments_read settings [] left p) (λ more. [] ++ more) (λ more. refl);
  placed = places_none s v.pass v.pass (WasRead (arguments_read settings [] left p)) refl;
}
  where
    named : map (λ u. u.id) e.names.used ≡ bound_names p.scope.nesting
    named = ap (λ (x : IdsView). map (λ u. u.id) x.used) names ∙ bound.names

module _ {settings : ProofSettings} {z : Table} {v w : TermsView} {t : ReaderView} {e : BoundVariables} {p : ProofState} {left : List Argument} {whole : Outcome ProofState (List (Var × Term))} (l : AreLeft settings z v w t e p left whole) where
  -- all were read
  pub ends : left ≡ [] → AnswersAs v (both z w) (AreArgumentsRead (both z w) settings t e p) whole (Ok tt)
  unfolding arguments_read
  ends none = record {
    answer = record {
      value = l.read;
      state = l.now;
      is = sym l.comes
          ∙ (ap (λ xs. and_then (arguments_read settings l.earlier xs l.now) (λ more. give (l.read ++ more))) none ∙ ap (λ xs. done xs l.now) (append-nil l.read));
      after = record { earlier = l.earlier; opening = l.opening; same = l.same };
    };
    placed = l.placed;
  }

  module _ {y : Table} {x : TermsView} (symbols : AddsNoSymbols z y) (terms : KeepsTerms w x) {first : Argument} {rest : List Argument} (split : left ≡ first ∷ rest) where
    -- the first of the arguments that are left
    abbrev this : Outcome ProofState (Var × Term)
    this = argument_read settings l.earlier first l.now

    whole_is : and_then (and_then this (behind_one settings l.earlier rest)) (behind_all l.read) ≡ whole
    unfolding arguments_read ◌>>=◌
    whole_is = ap (λ xs. and_then (arguments_read settings l.earlier xs l.now) (λ more. give (l.read ++ more))) (sym split) ∙ l.comes

    part : IsPartOf terms_in this whole
    part =
        let first = part_of_whole this (behind_one settings l.earlier rest) (keeps_behind settings l.earlier rest) refl in
        let more = part_of_whole (and_then this (behind_one settings l.earlier rest)) (behind_all l.read) (keeps_all l.read) whole_is in
        record { reads = λ term was. more.reads term (first.reads term was); faults = λ refusal e. more.faults refusal (first.faults refusal e) }

    module _ {u : ReaderView} {f : BoundVariables} where
      pub fails : {fault : ReadFault} → AnswersAs w (both y x) (IsArgumentRead (both y x) settings u f l.earlier l.read l.now) this (Err fault) → AnswersAs v (both y x) (AreArgumentsRead (both y x) settings u f p) whole (Err fault)
      fails g = fails_with v part symbols.keeps terms l.placed g

      pub goes_on : AnswersAs w (both y x) (IsArgumentRead (both y x) settings u f l.earlier l.read l.now) this (Ok tt) → AreLeft settings y v x u f p rest whole
      unfolding ◌>>=◌
      goes_on g =
          let b = g.answer.value in
          let q = g.answer.state in
          record {
            earlier = b.0.name ∷ l.earlier;
            read = l.read ++ b ∷ [];
            now = q;
            opening = g.answer.after.opening;
            same = record { scope = g.answer.after.same.scope ∙ l.same.scope; anchors = g.answer.after.same.anchors ∙ l.same.anchors };
            comes = sym (regrouped l.read b (arguments_read settings (b.0.name ∷ l.earlier) rest q))
                ∙ (ap (λ (o : Outcome ProofState (Var × Term)). and_then (and_then o (behind_one settings l.earlier rest)) (behind_all l.read)) (sym g.answer.is) ∙ whole_is);
            placed = placed_with v part symbols.keeps terms l.placed g;
          }

-- some argument is left, and what reading it adds
pub ruleset arguments_left = (first_fits, adds_then)
