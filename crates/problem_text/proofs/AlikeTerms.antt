-- What a term is read to depends on no place, and on a script by what it says of names alone.
use Rattle.std.proofs.Common.{◌≡◌, ℕ, List, [], ◌∷◌, ◌++◌, map, Bool, true, false, ◌||◌, Result, Ok, Err, Option, Some, None, if◌then◌else◌, refl, sym, ◌∙◌, ap, subst}
use Rattle.sexpr.specs.declared.causes.Cause.{Cause}
use Rattle.sexpr.specs.declared.causes.Cause.TheVariants.{Repeated, SortMismatch, TooHigh, UnknownName}
use Rattle.sexpr.specs.declared.causes.Refusal.{Refusal}
use Rattle.term_model.specs.declared.symbols.Sort.{Sort}
use Rattle.term_model.specs.Terms.{numeral}
use Rattle.term_model.specs.Heights.{height}
use Rattle.problem_text.specs.Words.{is_among, is_built_in}
use Rattle.text_items.specs.ItemShapes.{Name}
use Rattle.problem_text.specs.Forms.{Form, faulty, number, symbol, application, let_form, annotated, Forms, no_forms, form, LetBinds, no_binds, bind}
use Rattle.problem_text.specs.Limits.{is_low}
use Rattle.problem_text.specs.TypedTerms.{Typed}
use Rattle.problem_text.specs.Outcomes.{Outcome, done, refuse, going_on, and_then}
use Rattle.problem_text.specs.Scripts.{Named, Script, is_taken, with_named, with_term, with_let_name}
use Rattle.problem_text.specs.Names.{Bound, Place, Meaning, meaning_of, meaning_applied, refusal_of, place_inside, let_term}
use Rattle.problem_text.specs.Terms.{settled, with_meaning, with_names, term_from, terms_from, bounds_from}
use Rattle.sexpr.specs.Items.{Item}
use Rattle.problem_text.specs.Forms.{form_of}
use Rattle.problem_text.specs.Terms.{read_term}
use Rattle.problem_text.proofs.AlikeForms.{form_of_unplaced}
use Rattle.sexpr.specs.Spans.{AreAlike, unplaced}
use Rattle.problem_text.specs.Alike.{name_unplaced, form_unplaced, forms_unplaced, binds_unplaced, result_unplaced, SayTheSame, EndAlike}

same_meaning : (p : Place) (s u : Script) (name : List ℕ) → SayTheSame s u → meaning_of p s name ≡ meaning_of p u name
unfolding meaning_of
same_meaning p s u name same = ap (λ x. meaning_of p x name) same

done_alike : {A : Type 0} (a : A) (s u : Script) → SayTheSame s u → EndAlike (done a s) (done a u)
done_alike a s u same = record { results = refl; states = same }

refused_alike : {A : Type 0} (cause : Cause) (place other : ℕ) (s u : Script) → SayTheSame s u → EndAlike {A = A} (refuse cause place s) (refuse cause other u)
refused_alike cause place other s u same = record { results = refl; states = same }

going_on_alike : {A B : Type 0} (r q : Result A Refusal) (s u : Script) (next other : A → Script → Outcome Script B) → result_unplaced r ≡ result_unplaced q
    → SayTheSame s u
    → ((a : A) (s u : Script) → SayTheSame s u → EndAlike (next a s) (other a u)) → EndAlike (going_on r s next) (going_on q u other)
going_on_alike (Ok a) (Ok b) s u next other e same k =
    let f : a ≡ b = cc in
    subst (λ x. EndAlike (next a s) (other x u)) f (k a s u same)
going_on_alike (Ok a) (Err q) s u next other e same k = absurd (cc)
going_on_alike (Err r) (Ok b) s u next other e same k = absurd (cc)
going_on_alike (Err r) (Err q) s u next other e same k = record
    { results = (let f : record r { at = 0 } ≡ record q { at = 0 } = cc in ap Err f); states = same }

alike_then : {A B : Type 0} (o q : Outcome Script A) (next other : A → Script → Outcome Script B) → EndAlike o q
    → ((a : A) (s u : Script) → SayTheSame s u → EndAlike (next a s) (other a u)) → EndAlike (and_then o next) (and_then q other)
alike_then o q next other h k = going_on_alike o.result q.result o.state q.state next other h.results h.states k

if_alike : {A : Type 0} (b c : Bool) (o q o' q' : Outcome Script A) → b ≡ c → EndAlike o q → EndAlike o' q'
    → EndAlike (if b then o else o') (if c then q else q')
if_alike true true o q o' q' e h k = h
if_alike true false o q o' q' e h k = absurd (cc)
if_alike false true o q o' q' e h k = absurd (cc)
if_alike false false o q o' q' e h k = k

settled_alike : (cause : Cause) (limit : Option ℕ) (place other : ℕ) (o : Option Typed) (s u : Script) → SayTheSame s u
    → EndAlike (settled cause limit place o s) (settled cause limit other o u)
settled_alike cause limit place other None s u same = refused_alike cause place other s u same
settled_alike cause limit place other (Some t) s u same =
    if_alike (is_low limit (height t.tree)) (is_low limit (height t.tree)) _ _ _ _ refl
    (done_alike t (with_term t.tree s) (with_term t.tree u) same) (refused_alike TooHigh place other (with_term t.tree s) (with_term t.tree u) same)

meaning_alike : {A : Type 0} (place elsewhere : ℕ) (o : Option Meaning) (s u : Script) (next other : Meaning → Outcome Script A) → SayTheSame s u
    → ((m : Meaning) → EndAlike (next m) (other m)) → EndAlike (with_meaning place o s next) (with_meaning elsewhere o u other)
meaning_alike place elsewhere None s u next other same k = refused_alike UnknownName place elsewhere s u same
meaning_alike place elsewhere (Some m) s u next other same k = k m

names_alike : (t : Typed) (ns : List Name) (s u : Script) → SayTheSame s u → EndAlike (with_names t ns s) (with_names t (map name_unplaced ns) u)
names_alike t [] s u same = done_alike t s u same
names_alike t (n ∷ ns) s u same =
    if_alike (is_taken s n.name) (is_taken u n.name) _ _ _ _ (ap (λ names. is_built_in n.name || is_among names n.name) (ap (λ (x : Script). x.taken) same))
    (refused_alike Repeated n.place 0 s u same)
    (names_alike t ns (with_named (record { name = n.name; meant = t }) s) (with_named (record { name = n.name; meant = t }) u)
    (ap (with_named (record { name = n.name; meant = t })) same))

mutual
  unfolding term_from terms_from bounds_from

  pub term_alike : (f : Form) (p : Place) (s u : Script) → SayTheSame s u → EndAlike (term_from f p s) (term_from (form_unplaced f) p u)
  term_alike (faulty cause place) p s u same = refused_alike cause place 0 s u same
  term_alike (number place n) p s u same = settled_alike SortMismatch p.settings.limit place 0 (Some (record { tree = numeral n; sort = Sort.Int })) s u same
  term_alike (symbol n) p s u same =
      subst (λ m. EndAlike (term_from (symbol n) p s) (with_meaning 0 m u (λ m. settled SortMismatch p.settings.limit 0 (meaning_applied m []) u)))
      (same_meaning p s u n.name same)
      (meaning_alike n.place 0 (meaning_of p s n.name) s u _ _ same
      (λ m. settled_alike SortMismatch p.settings.limit n.place 0 (meaning_applied m []) s u same))
  term_alike (application place head fs) p s u same =
      subst (λ m. EndAlike (term_from (application place head fs) p s)
      (with_meaning 0 m u (λ m. and_then (terms_from (forms_unplaced fs) p u)
      (λ ts last. settled (refusal_of m ts) p.settings.limit 0 (meaning_applied m ts) last))))
      (same_meaning p s u head.name same)
      (meaning_alike head.place 0 (meaning_of p s head.name) s u _ _ same
      (λ m. alike_then (terms_from fs p s) (terms_from (forms_unplaced fs) p u) _ _ (terms_alike fs p s u same)
      (λ ts s u same. settled_alike (refusal_of m ts) p.settings.limit place 0 (meaning_applied m ts) s u same)))
  term_alike (let_form place bs body) p s u same =
      alike_then (bounds_from bs [] p s) (bounds_from (binds_unplaced bs) [] p u) _ _ (bounds_alike bs [] p s u same)
      (λ bound s u same. alike_then (term_from body (place_inside bound p) s) (term_from (form_unplaced body) (place_inside bound p) u) _ _
      (term_alike body (place_inside bound p) s u same)
      (λ t s u same. settled_alike SortMismatch p.settings.limit place 0 (Some (let_term p bound t)) s u same))
  term_alike (annotated place f names) p s u same =
      alike_then (term_from f p s) (term_from (form_unplaced f) p u) _ _ (term_alike f p s u same) (λ t s u same. names_alike t names s u same)

  pub terms_alike : (fs : Forms) (p : Place) (s u : Script) → SayTheSame s u → EndAlike (terms_from fs p s) (terms_from (forms_unplaced fs) p u)
  terms_alike no_forms p s u same = done_alike [] s u same
  terms_alike (form f fs) p s u same =
      alike_then (term_from f p s) (term_from (form_unplaced f) p u) _ _ (term_alike f p s u same)
      (λ t s u same. alike_then (terms_from fs p s) (terms_from (forms_unplaced fs) p u) _ _ (terms_alike fs p s u same)
      (λ ts s u same. done_alike (t ∷ ts) s u same))

  pub bounds_alike : (bs : LetBinds) (earlier : List (List ℕ)) (p : Place) (s u : Script) → SayTheSame s u
      → EndAlike (bounds_from bs earlier p s) (bounds_from (binds_unplaced bs) earlier p u)
  bounds_alike no_binds earlier p s u same = done_alike [] s u same
  bounds_alike (bind n f bs) earlier p s u same =
      if_alike (is_built_in n.name || is_among earlier n.name) (is_built_in n.name || is_among earlier n.name) _ _ _ _ refl
      (refused_alike Repeated n.place 0 s u same)
      (alike_then (term_from f p (with_let_name n.name s)) (term_from (form_unplaced f) p (with_let_name n.name u)) _ _
      (term_alike f p (with_let_name n.name s) (with_let_name n.name u) same)
      (λ t s u same. alike_then (bounds_from bs (n.name ∷ earlier) p s) (bounds_from (binds_unplaced bs) (n.name ∷ earlier) p u) _ _
      (bounds_alike bs (n.name ∷ earlier) p s u same)
      (λ bound s u same. done_alike (record { variable = record { name = n.name; sort = t.sort }; stands_for = t.tree } ∷ bound) s u same)))

alike_by : {A : Type 0} (o m q : Outcome Script A) → EndAlike o m → EndAlike q m → EndAlike o q
alike_by o m q a b = record { results = a.results ∙ sym b.results; states = a.states ∙ sym b.states }

-- Items that are alike are read alike behind scripts that say the same of names.
pub read_alike : (i j : Item) (p : Place) (s u : Script) → AreAlike i j → SayTheSame s u → EndAlike (read_term i p s) (read_term j p u)
read_alike i j p s u alike same =
    let e : form_unplaced (form_of i) ≡ form_unplaced (form_of j) = sym (form_of_unplaced i) ∙ ap form_of alike ∙ form_of_unplaced j in
    alike_by (read_term i p s) (term_from (form_unplaced (form_of j)) p u) (read_term j p u)
    (subst (λ f. EndAlike (read_term i p s) (term_from f p u)) e (term_alike (form_of i) p s u same))
    (term_alike (form_of j) p u u refl)
