-- Each term that is read is well sorted and not too high.
use Rattle.std.proofs.Common.{◌≡◌, ℕ, List, [], ◌∷◌, Bool, true, false, ◌||◌, Option, Some, None, IfSome, if◌then◌else◌, refl}
use Rattle.std.proofs.lemmas.Bool.{leb-true}
use Rattle.std.specs.List.{AllByRecursion}
use Rattle.std.specs.Prelude.{◌≤◌}
use Rattle.sexpr.specs.declared.causes.Cause.{Cause}
use Rattle.sexpr.specs.declared.causes.Cause.TheVariants.{Repeated, TooHigh, SortMismatch}
use Rattle.term_model.specs.declared.symbols.Sort.{Sort}
use Rattle.term_model.specs.Terms.{numeral}
use Rattle.term_model.specs.Sorts.{IsOf}
use Rattle.term_model.specs.Heights.{height}
use Rattle.term_model.proofs.Lists.{all_at_end}
use Rattle.problem_text.specs.Words.{is_among, is_built_in}
use Rattle.text_items.specs.ItemShapes.{Name}
use Rattle.problem_text.specs.Forms.{Form, faulty, number, symbol, application, let_form, annotated, Forms, no_forms, form, LetBinds, no_binds, bind}
use Rattle.problem_text.specs.Limits.{is_low}
use Rattle.problem_text.specs.TypedTerms.{Typed}
use Rattle.problem_text.specs.Outcomes.{Outcome, done, refuse, and_then}
use Rattle.problem_text.specs.Scripts.{Named, Script, is_taken, with_named, with_term, with_let_name}
use Rattle.problem_text.specs.Names.{Place, Meaning, meaning_of, meaning_applied, refusal_of, place_inside, let_term}
use Rattle.problem_text.specs.Terms.{settled, with_meaning, with_names, term_from, terms_from, bounds_from}
use Rattle.problem_text.specs.Soundness.{IsReadWithin, AreBoundSorted, IsSound}
use Rattle.problem_text.proofs.Outcomes.{Ends, ends-and_then}
use Rattle.problem_text.proofs.Meanings.{IsFit, meaning-fits, AreTyped, applied-fits, inside-fits, let-fits}

abbrev IsTyped : Typed → Type 0
IsTyped t = IsOf t.tree t.sort

abbrev AreRead : Option ℕ → List Typed → Type 0
AreRead limit ts = AllByRecursion (IsReadWithin limit) ts

typed_of_read : (limit : Option ℕ) (ts : List Typed) → AreRead limit ts → AreTyped ts
typed_of_read limit [] h = tt
typed_of_read limit (t ∷ ts) h = (h.0.sorted, typed_of_read limit ts h.1)

low-height : (limit : Option ℕ) (h : ℕ) → is_low limit h ≡ true → IfSome limit (λ most. h ≤ most)
low-height None h e = tt
low-height (Some most) h e = leb-true h most e

settled-sound : (cause : Cause) (limit : Option ℕ) (place : ℕ) (o : Option Typed) (s : Script) → IsSound s → IfSome o IsTyped → Ends IsSound (IsReadWithin limit) (settled cause limit place o s)
settled-sound cause limit place None s sound h = (sound, tt)
settled-sound cause limit place (Some t) s sound h = go (is_low limit (height t.tree)) refl
  where
    after : IsSound (with_term t.tree s)
    after = record { named = sound.named; macros = sound.macros; assertions = sound.assertions }

    go : (b : Bool) → is_low limit (height t.tree) ≡ b → Ends IsSound (IsReadWithin limit) (if b then done t (with_term t.tree s) else refuse TooHigh place (with_term t.tree s))
    go true e = (after, record { sorted = h; low = low-height limit (height t.tree) e })
    go false e = (after, tt)

with_meaning-sound : {A : Type 0} (Q : A → Type 0) (place : ℕ) (o : Option Meaning) (s : Script) (next : Meaning → Outcome Script A) → IsSound s → IfSome o IsFit → ((m : Meaning) → IsFit m → Ends IsSound Q (next m)) → Ends IsSound Q (with_meaning place o s next)
with_meaning-sound Q place (Some m) s next sound fit k = k m fit
with_meaning-sound Q place None s next sound fit k = (sound, tt)

unless_repeated : {A : Type 0} (Q : A → Type 0) (b : Bool) (place : ℕ) (s : Script) (o : Outcome Script A) → IsSound s → Ends IsSound Q o → Ends IsSound Q (if b then refuse Repeated place s else o)
unless_repeated Q true place s o sound h = (sound, tt)
unless_repeated Q false place s o sound h = h

named-sound : (n : Named) (s : Script) → IsSound s → IsOf n.meant.tree n.meant.sort → IsSound (with_named n s)
named-sound n s sound h = record {
  named = all_at_end (λ m. IsOf m.meant.tree m.meant.sort) s.named n sound.named h;
  macros = sound.macros;
  assertions = sound.assertions;
}

with_names-sound : (limit : Option ℕ) (ns : List Name) (t : Typed) (s : Script) → IsSound s → IsReadWithin limit t → Ends IsSound (IsReadWithin limit) (with_names t ns s)
with_names-sound limit [] t s sound h = (sound, h)
with_names-sound limit (n ∷ ns) t s sound h =
    unless_repeated (IsReadWithin limit) (is_taken s n.name) n.place s _ sound
    (with_names-sound limit ns t (with_named (record { name = n.name; meant = t }) s) (named-sound (record { name = n.name; meant = t }) s sound h.sorted) h)

pub let_name-sound : (name : List ℕ) (s : Script) → IsSound s → IsSound (with_let_name name s)
let_name-sound name s sound = record { named = sound.named; macros = sound.macros; assertions = sound.assertions }

mutual
  unfolding term_from

  pub term-sound : (f : Form) (p : Place) (s : Script) → AreBoundSorted p.scope → IsSound s → Ends IsSound (IsReadWithin p.settings.limit) (term_from f p s)
  term-sound (faulty cause place) p s h sound = (sound, tt)
  term-sound (number place n) p s h sound = settled-sound SortMismatch p.settings.limit place (Some (record { tree = numeral n; sort = Sort.Int })) s sound refl
  term-sound (symbol n) p s h sound =
      with_meaning-sound (IsReadWithin p.settings.limit) n.place (meaning_of p s n.name) s (λ m. settled SortMismatch p.settings.limit n.place (meaning_applied m []) s) sound (meaning-fits p s n.name h sound)
      (λ m fit. settled-sound SortMismatch p.settings.limit n.place (meaning_applied m []) s sound (applied-fits m [] fit tt))
  term-sound (application place head fs) p s h sound =
      with_meaning-sound (IsReadWithin p.settings.limit) head.place (meaning_of p s head.name) s (λ m. and_then (terms_from fs p s) (λ ts after. settled (refusal_of m ts) p.settings.limit place (meaning_applied m ts) after)) sound (meaning-fits p s head.name h sound)
      (λ m fit. ends-and_then IsSound (AreRead p.settings.limit) (IsReadWithin p.settings.limit) (terms_from fs p s) (λ ts after. settled (refusal_of m ts) p.settings.limit place (meaning_applied m ts) after) (terms-sound fs p s h sound)
      (λ ts after read sound'. settled-sound (refusal_of m ts) p.settings.limit place (meaning_applied m ts) after sound' (applied-fits m ts fit (typed_of_read p.settings.limit ts read))))
  term-sound (let_form place bs body) p s h sound =
      ends-and_then IsSound AreBoundSorted (IsReadWithin p.settings.limit) (bounds_from bs [] p s) (λ bound after. and_then (term_from body (place_inside bound p) after) (λ t last. settled SortMismatch p.settings.limit place (Some (let_term p bound t)) last)) (bounds-sound bs [] p s h sound)
      (λ bound after fit sound'. ends-and_then IsSound (IsReadWithin p.settings.limit) (IsReadWithin p.settings.limit) (term_from body (place_inside bound p) after) (λ t last. settled SortMismatch p.settings.limit place (Some (let_term p bound t)) last) (term-sound body (place_inside bound p) after (inside-fits p bound h fit) sound')
      (λ t last read sound''. settled-sound SortMismatch p.settings.limit place (Some (let_term p bound t)) last sound'' (let-fits p bound t fit read.sorted)))
  term-sound (annotated place f names) p s h sound =
      ends-and_then IsSound (IsReadWithin p.settings.limit) (IsReadWithin p.settings.limit) (term_from f p s) (λ t after. with_names t names after) (term-sound f p s h sound)
      (λ t after read sound'. with_names-sound p.settings.limit names t after sound' read)

  pub terms-sound : (fs : Forms) (p : Place) (s : Script) → AreBoundSorted p.scope → IsSound s → Ends IsSound (AreRead p.settings.limit) (terms_from fs p s)
  terms-sound no_forms p s h sound = (sound, tt)
  terms-sound (form f fs) p s h sound =
      ends-and_then IsSound (IsReadWithin p.settings.limit) (AreRead p.settings.limit) (term_from f p s) (λ t after. and_then (terms_from fs p after) (λ ts last. done (t ∷ ts) last)) (term-sound f p s h sound)
      (λ t after read sound'. ends-and_then IsSound (AreRead p.settings.limit) (AreRead p.settings.limit) (terms_from fs p after) (λ ts last. done (t ∷ ts) last) (terms-sound fs p after h sound')
      (λ ts last all sound''. (sound'', (read, all))))

  pub bounds-sound : (bs : LetBinds) (earlier : List (List ℕ)) (p : Place) (s : Script) → AreBoundSorted p.scope → IsSound s → Ends IsSound AreBoundSorted (bounds_from bs earlier p s)
  bounds-sound no_binds earlier p s h sound = (sound, tt)
  bounds-sound (bind n f bs) earlier p s h sound =
      unless_repeated AreBoundSorted (is_built_in n.name || is_among earlier n.name) n.place s _ sound
      (ends-and_then IsSound (IsReadWithin p.settings.limit) AreBoundSorted (term_from f p (with_let_name n.name s)) _ (term-sound f p (with_let_name n.name s) h (let_name-sound n.name s sound))
      (λ t after read sound'. ends-and_then IsSound AreBoundSorted AreBoundSorted (bounds_from bs (n.name ∷ earlier) p after) _ (bounds-sound bs (n.name ∷ earlier) p after h sound')
      (λ bound last all sound''. (sound'', (read.sorted, all)))))
