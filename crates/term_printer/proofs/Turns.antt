-- A page after one task comes to what it came to before.
use Rattle.std.proofs.Common.{◌≡◌, ℕ, List, [], ◌∷◌, ◌++◌, ◌+◌, length, reverse, refl, sym, ap, ◌∙◌, subst, arith}
use Rattle.std.proofs.lemmas.List.{append-nil, append_assoc, length-append, reverse-append}
use Rattle.std.specs.List.{AllZip}
use Rattle.sexpr.specs.Printed.{printed}
use Rattle.sym_table.specs.Table.{Table}
use Rattle.term_model.specs.Terms.{Term}
use Rattle.term_pool.specs.Views.{TermsView, RefersTo}
use Rattle.problem_text.specs.Scripts.{Script}
use Rattle.printed_proofs.specs.Parts.{Part, whole, parts_text, parts_behind}
use Rattle.printed_proofs.specs.Shared.{Plan, shared_item, behind_term}
use Rattle.term_printer.specs.declared.page.Page.{Page}
use Rattle.term_walk.specs.declared.tasks.Task.{Task}
use Rattle.term_printer.specs.Names.{AreGiven}
use Rattle.term_printer.specs.Pages.{IsTask, IsSomeTask, PerformsIn, Performs, ComesTo, ComesToSome, IsFurther}

-- lists in step
record EndsWith {X Y : Type 0} (P : X → Y → Type 0) (xs : List X) (x : X) (ys : List Y) : Type 0 where
  others : List Y
  last : Y
  is : ys ≡ others ++ last ∷ []
  in_step : AllZip P xs others
  fits : P x last

ends_with : {X Y : Type 0} (P : X → Y → Type 0) (xs : List X) (x : X) (ys : List Y) → AllZip P (xs ++ x ∷ []) ys → EndsWith P xs x ys
ends_with P [] x [] h = absurd h
ends_with P [] x (y ∷ []) h = record { others = []; last = y; is = refl; in_step = tt; fits = h.0 }
ends_with P [] x (y ∷ z ∷ ys) h = absurd h.1
ends_with P (a ∷ xs) x [] h = absurd h
ends_with P (a ∷ xs) x (y ∷ ys) h =
    let r = ends_with P xs x ys h.1 in
    record { others = y ∷ r.others; last = r.last; is = ap (λ l. y ∷ l) r.is; in_step = (h.0, r.in_step); fits = r.fits }

joined : {X Y : Type 0} (P : X → Y → Type 0) (xs us : List X) (ys ws : List Y) → AllZip P xs ys → AllZip P us ws → AllZip P (xs ++ us) (ys ++ ws)
joined P [] us [] ws h k = k
joined P [] us (y ∷ ys) ws h k = absurd h
joined P (x ∷ xs) us [] ws h k = absurd h
joined P (x ∷ xs) us (y ∷ ys) ws h k = (h.0, joined P xs us ys ws h.1 k)

module _ (plan : Plan) (s : Table) (v : TermsView) where
  -- what the last task is
  of_last : (page : Page) (others : List Task) (task : Task) (bytes : List ℕ) (end : Script) (h : ComesTo plan s v page bytes end)
      → page.tasks.items ≡ others ++ task ∷ [] → EndsWith (IsTask plan s v) others task h.parts
  of_last page others task bytes end h e =
      ends_with (IsTask plan s v) others task h.parts (subst (λ ts. AllZip (IsTask plan s v) ts h.parts) e h.tasks)

  -- after one task
  module _ (old mid new : Page) (task : Task) (bytes : List ℕ) (end : Script) (h : ComesTo plan s v old bytes end)
      (e : old.tasks.items ≡ mid.tasks.items ++ task ∷ []) (same : mid.text.items ≡ old.text.items) (names : mid.names ≡ old.names)
      (done : (p : Part) → IsTask plan s v task p → Performs plan s v mid new p) where
    r : EndsWith (IsTask plan s v) mid.tasks.items task h.parts
    r = of_last old mid.tasks.items task bytes end h e

    k : PerformsIn plan s v mid new r.last h.state
    k = done r.last r.fits h.state (subst (λ n. AreGiven plan s v n h.state.taken) (sym names) h.given)

    pub turn : ComesTo plan s v new bytes end
    turn =
        let rest : List Part = reverse r.others in
        let turned : reverse h.parts ≡ r.last ∷ rest = ap reverse r.is ∙ reverse-append r.others (r.last ∷ []) in
        let all : reverse (r.others ++ k.parts) ≡ reverse k.parts ++ rest = reverse-append r.others k.parts in
        let go = k.goes_on rest in
        record {
          state = k.behind;
          parts = r.others ++ k.parts;
          tasks =
              subst (λ ts. AllZip (IsTask plan s v) ts (r.others ++ k.parts)) (sym k.left)
              (joined (IsTask plan s v) mid.tasks.items k.tasks r.others k.parts r.in_step k.are);
          given = k.given;
          text =
              ap (λ x. new.text.items ++ parts_text plan k.behind x) all
              ∙ (ap (λ x. x ++ parts_text plan k.behind (reverse k.parts ++ rest)) (k.text ∙ ap (λ x. x ++ k.bytes) same)
              ∙ (append_assoc old.text.items k.bytes (parts_text plan k.behind (reverse k.parts ++ rest))
              ∙ (ap (λ x. old.text.items ++ x) (sym go.text)
              ∙ (ap (λ x. old.text.items ++ parts_text plan h.state x) (sym turned) ∙ h.text))));
          behind =
              ap (λ x. parts_behind plan k.behind x) all
              ∙ (sym go.behind ∙ (ap (λ x. parts_behind plan h.state x) (sym turned) ∙ h.behind));
        }

    pub further : IsFurther old new
    further =
        let a = ap length k.left ∙ length-append mid.tasks.items k.tasks in
        let b = ap length e ∙ length-append mid.tasks.items (task ∷ []) in
        let c = ap length k.text ∙ (length-append mid.text.items k.bytes ∙ ap (λ x. length x + length k.bytes) same) in
        let f = k.few in
        omega (arith, a, b, c, f)

  pub begun : (old new : Page) (r : ℕ) (t : Term) (u : Script) → old.tasks.items ≡ [] → new.text.items ≡ old.text.items
      → new.tasks.items ≡ old.tasks.items ++ (Task.Term r ∷ []) → new.names ≡ old.names → RefersTo s v r t → AreGiven plan s v old.names u.taken
      → ComesTo plan s v new (old.text.items ++ printed (shared_item plan u t)) (behind_term plan u t)
  begun old new r t u none text tasks names h g = record {
    state = u;
    parts = whole t ∷ [];
    tasks = subst (λ ts. AllZip (IsTask plan s v) ts (whole t ∷ [])) (sym (tasks ∙ ap (λ ts. ts ++ (Task.Term r ∷ [])) none)) (h, tt);
    given = subst (λ n. AreGiven plan s v n u.taken) (sym names) g;
    text =
        ap (λ x. x ++ (printed (shared_item plan u t) ++ [])) text
        ∙ ap (λ x. old.text.items ++ x) (append-nil (printed (shared_item plan u t)));
    behind = refl;
  }

-- what the last task is, and that something more is printed
module _ (s : Table) (v : TermsView) where
  pub some_last : (page : Page) (others : List Task) (task : Task) → ComesToSome s v page → page.tasks.items ≡ others ++ task ∷ [] → IsSomeTask s v task
  some_last page others task h e =
      let r = of_last h.plan s v page others task h.bytes h.end h.comes e in
      record { plan = h.plan; part = r.last; is = r.fits }

  pub goes_further : (old mid new : Page) (task : Task) → ComesToSome s v old → old.tasks.items ≡ mid.tasks.items ++ task ∷ []
      → mid.text.items ≡ old.text.items → mid.names ≡ old.names → ((plan : Plan) (p : Part) → IsTask plan s v task p → Performs plan s v mid new p)
      → IsFurther old new
  goes_further old mid new task h e same names done = further h.plan s v old mid new task h.bytes h.end h.comes e same names (done h.plan)
