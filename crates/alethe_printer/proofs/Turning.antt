-- A printer goes on to what it came to.
use Rattle.std.proofs.Common.{◌≡◌, ◌≤◌, ℕ, List, [], ◌∷◌, ◌++◌, length, reverse, refl, sym, ap, ◌∙◌, subst}
use Rattle.std.proofs.lemmas.List.{append_assoc, append-nil, reverse-append}
use Rattle.std.specs.List.{AllZip}
use Rattle.sexpr.specs.Items.{Item, Items}
use Rattle.sexpr.specs.Printed.{printed, printed_lines}
use Rattle.sym_table.specs.Table.{Table}
use Rattle.term_model.specs.Terms.{Var, Term}
use Rattle.term_model.proofs.Zips.{zip_append}
use Rattle.term_pool.specs.Views.{TermsView}
use Rattle.rule_model.specs.Commands.{lines_in}
use Rattle.rule_model.specs.Proofs.{ProofItems}
use Rattle.rule_model.specs.Scopes.{outermost}
use Rattle.problem_text.specs.Scripts.{Script}
use Rattle.printed_proofs.specs.FileOrder.{Event, event_item, behind_event, event_items, scope_events}
use Rattle.printed_proofs.specs.Parts.{Part, parts_text, parts_behind}
use Rattle.printed_proofs.specs.Shared.{Plan}
use Rattle.term_printer.specs.Names.{AreGiven}
use Rattle.term_printer.specs.Pages.{ComesTo}
use Rattle.term_printer.specs.declared.page.Page.{Page}
use Rattle.alethe_printer.specs.declared.stages.Stage.{Stage}
use Rattle.alethe_printer.specs.Places.{closing_index, AreLeft}
use Rattle.alethe_printer.specs.Printing.{lines_of, PrintsTo}
use Rattle.alethe_printer.specs.Stages.{StandsFor}
use Rattle.alethe_printer.specs.Steps.{Does, Begins, IsSomeStage}
use Rattle.alethe_printer.proofs.Meeting.{all_left}
use Rattle.alethe_printer.proofs.NextEvents.{none_next}
use Rattle.alethe_printer.proofs.Pages.{no_parts, blank, all_printed, all_given}

-- the last item of lists in step
pub record EndsWith {X Y : Type 0} (P : X → Y → Type 0) (xs : List X) (x : X) (ys : List Y) : Type 0 where
  pub others : List Y
  pub last : Y
  pub is : ys ≡ others ++ last ∷ []
  pub in_step : AllZip P xs others
  pub fits : P x last

pub ends_with : {X Y : Type 0} (P : X → Y → Type 0) (xs : List X) (x : X) (ys : List Y) → AllZip P (xs ++ x ∷ []) ys → EndsWith P xs x ys
ends_with P [] x [] h = absurd h
ends_with P [] x (y ∷ []) h = record { others = []; last = y; is = refl; in_step = tt; fits = h.0 }
ends_with P [] x (y ∷ z ∷ ys) h = absurd h.1
ends_with P (a ∷ xs) x [] h = absurd h
ends_with P (a ∷ xs) x (y ∷ ys) h =
    let r = ends_with P xs x ys h.1 in
    record { others = y ∷ r.others; last = r.last; is = ap (λ l. y ∷ l) r.is; in_step = (h.0, r.in_step); fits = r.fits }

module _ (plan : Plan) (s : Table) (v : TermsView) (refs : ProofItems ℕ ℕ) (of : ProofItems Var Term) where
  abbrev Left : Page → List Stage → ℕ → ℕ → List ℕ → Type 0
  Left page stages opened next bytes = PrintsTo plan s v refs of page stages opened next bytes

  -- at the beginning
  pub nothing_yet : (page : Page) (stages : List Stage) (script : Script) (items : Items) → page.text.items ≡ [] → page.tasks.items ≡ [] → stages ≡ []
      → AreGiven plan s v page.names script.taken → script.sorts ≡ s.sorts
      → event_items (closing_index outermost of) plan script (scope_events outermost of) ≡ items → Left page stages 0 0 (printed_lines items)
  nothing_yet page stages script items text tasks none given sorts is = record {
    of_page = [];
    state = script;
    comes = blank plan s v page [] script tasks text given;
    sorts = sorts;
    parts = [];
    are = subst (λ xs. AllZip (StandsFor s v refs) xs []) (sym none) tt;
    events = scope_events outermost of;
    left = all_left of;
    text = ap printed_lines is;
  }

  -- the page comes to the same
  pub page_turned : (old new : Page) (w : TermsView) (stages now : List Stage) (opened next : ℕ) (bytes : List ℕ) → w ≡ v → stages ≡ now
      → ((b : List ℕ) (end : Script) → ComesTo plan s v old b end → ComesTo plan s w new b end) → Left old stages opened next bytes
      → Left new now opened next bytes
  page_turned old new w stages now opened next bytes same is turns h = record {
    of_page = h.of_page;
    state = h.state;
    comes = subst (λ x. ComesTo plan s x new h.of_page h.state) same (turns h.of_page h.state h.comes);
    sorts = h.sorts;
    parts = h.parts;
    are = subst (λ xs. AllZip (StandsFor s v refs) xs h.parts) is h.are;
    events = h.events;
    left = h.left;
    text = h.text;
  }

  -- the stage that is left first is some part
  pub some_stage : (page : Page) (others : List Stage) (stage : Stage) (opened next : ℕ) (bytes : List ℕ)
      → Left page (others ++ stage ∷ []) opened next bytes → IsSomeStage s refs stage
  some_stage page others stage opened next bytes h =
      let r = ends_with (StandsFor s v refs) others stage h.parts h.are in
      record { view = v; part = r.last; is = r.fits }

  -- one stage is done
  pub stage_done : (old new : Page) (others after : List Stage) (stage : Stage) (opened next : ℕ) (bytes : List ℕ) → old.tasks.items ≡ []
      → ((p : Part) → StandsFor s v refs stage p → Does plan s v refs old new others after p) → Left old (others ++ stage ∷ []) opened next bytes
      → Left new after opened next bytes
  stage_done old new others after stage opened next bytes none does h =
      let r = ends_with (StandsFor s v refs) others stage h.parts h.are in
      let k = does r.last r.fits h.state h.sorts (all_given plan s v old h.of_page h.state h.comes none) in
      let rest : List Part = reverse r.others in
      let go = k.goes_on rest in
      let turned : reverse h.parts ≡ r.last ∷ rest = ap reverse r.is ∙ reverse-append r.others (r.last ∷ []) in
      let all : reverse (r.others ++ k.parts) ≡ reverse k.parts ++ rest = reverse-append r.others k.parts in
      let now : List Part = reverse k.parts ++ rest in
      let printed_now : old.text.items ≡ h.of_page = all_printed plan s v old h.of_page h.state h.comes none in
      let lines = λ (u : Script). lines_of plan of u h.events in
      record {
        of_page = old.text.items ++ k.bytes;
        state = k.end;
        comes = k.prints.page;
        sorts = k.sorts ∙ h.sorts;
        parts = r.others ++ k.parts;
        are =
            subst (λ xs. AllZip (StandsFor s v refs) xs (r.others ++ k.parts)) (sym k.prints.left)
            (zip_append (StandsFor s v refs) others r.others k.prints.stages k.parts r.in_step k.prints.are);
        events = h.events;
        left = h.left;
        text =
            ap (λ ps. (old.text.items ++ k.bytes) ++ (parts_text plan k.end ps ++ lines (parts_behind plan k.end ps))) all
            ∙ (ap (λ x. (x ++ k.bytes) ++ (parts_text plan k.end now ++ lines (parts_behind plan k.end now))) printed_now
            ∙ (append_assoc h.of_page k.bytes (parts_text plan k.end now ++ lines (parts_behind plan k.end now))
            ∙ (ap (λ x. h.of_page ++ x) (sym (append_assoc k.bytes (parts_text plan k.end now) (lines (parts_behind plan k.end now)))
            ∙ (ap (λ x. x ++ lines (parts_behind plan k.end now)) (sym go.text)
            ∙ ap (λ u. parts_text plan h.state (r.last ∷ rest) ++ lines u) (sym go.behind)))
            ∙ (ap (λ ps. h.of_page ++ (parts_text plan h.state ps ++ lines (parts_behind plan h.state ps))) (sym turned) ∙ h.text))));
      }

  -- nothing is left of a command
  module _ (old : Page) (stages : List Stage) (opened next : ℕ) (bytes : List ℕ) (no_tasks : old.tasks.items ≡ []) (no_stages : stages ≡ [])
      (h : Left old stages opened next bytes) where
    nothing_left : h.parts ≡ []
    nothing_left = no_parts (StandsFor s v refs) h.parts (subst (λ xs. AllZip (StandsFor s v refs) xs h.parts) no_stages h.are)

    text_now : old.text.items ++ lines_of plan of h.state h.events ≡ bytes
    text_now =
        ap (λ x. x ++ lines_of plan of h.state h.events) (all_printed plan s v old h.of_page h.state h.comes no_tasks)
        ∙ (ap (λ ps. h.of_page ++ (parts_text plan h.state (reverse ps) ++ lines_of plan of (parts_behind plan h.state (reverse ps)) h.events))
        (sym nothing_left) ∙ h.text)

    -- one event was begun
    pub event_begun : (new : Page) (after : List Stage) (opened_now next_now : ℕ) (e : Event) (es : List Event) → h.events ≡ e ∷ es
        → AreLeft of opened_now next_now es
        → Begins plan s v refs old new stages after (event_item (closing_index outermost of) plan h.state e) h.state (behind_event plan h.state e)
        → Left new after opened_now next_now bytes
    event_begun new after opened_now next_now e es is left begins =
        let k = begins (all_given plan s v old h.of_page h.state h.comes no_tasks) in
        let i : Item = event_item (closing_index outermost of) plan h.state e in
        let others : List ℕ = lines_of plan of (behind_event plan h.state e) es in
        let now : List Part = reverse k.parts in
        record {
          of_page = old.text.items ++ k.bytes;
          state = k.end;
          comes = k.prints.page;
          sorts = k.sorts ∙ h.sorts;
          parts = k.parts;
          are =
              subst (λ xs. AllZip (StandsFor s v refs) xs k.parts)
              (sym (k.prints.left ∙ ap (λ xs. xs ++ k.prints.stages) no_stages)) k.prints.are;
          events = es;
          left = left;
          text =
              ap (λ u. (old.text.items ++ k.bytes) ++ (parts_text plan k.end now ++ lines_of plan of u es)) k.state
              ∙ (append_assoc old.text.items k.bytes (parts_text plan k.end now ++ others)
              ∙ (ap (λ x. old.text.items ++ x) (sym (append_assoc k.bytes (parts_text plan k.end now) others) ∙ (ap (λ x. x ++ others) k.text
              ∙ append_assoc (printed i) (10 ∷ []) others))
              ∙ (ap (λ xs. old.text.items ++ lines_of plan of h.state xs) (sym is) ∙ text_now)));
        }

    -- no event is left
    pub all_done : length (lines_in outermost of) ≤ next → old.text.items ≡ bytes
    all_done end =
        sym (append-nil old.text.items)
        ∙ (ap (λ xs. old.text.items ++ lines_of plan of h.state xs) (sym (none_next of opened next h.events end h.left)) ∙ text_now)
