-- Public. Items, forms and outcomes but for their places; and scripts that say the same of names.
use Rattle.std.specs.Prelude.{◌≡◌, ℕ, List, [], map, Option, option_map, Result, Ok, Err}
use Rattle.sexpr.specs.declared.causes.Refusal.{Refusal}
use Rattle.text_items.specs.ItemShapes.{Name}
use Rattle.problem_text.specs.Forms.{Form, faulty, number, symbol, application, let_form, annotated, Forms, no_forms, form, LetBinds, no_binds, bind}
use Rattle.problem_text.specs.Outcomes.{Outcome}
use Rattle.problem_text.specs.Scripts.{Script}

abbrev pub name_unplaced : Name → Name
name_unplaced n = record { place = 0; name = n.name }

-- a form with 0 for each place
abbrev mutual
  pub form_unplaced : Form → Form
  form_unplaced (faulty cause place) = faulty cause 0
  form_unplaced (number place n) = number 0 n
  form_unplaced (symbol n) = symbol (name_unplaced n)
  form_unplaced (application place head fs) = application 0 (name_unplaced head) (forms_unplaced fs)
  form_unplaced (let_form place bs body) = let_form 0 (binds_unplaced bs) (form_unplaced body)
  form_unplaced (annotated place f names) = annotated 0 (form_unplaced f) (map name_unplaced names)

  pub forms_unplaced : Forms → Forms
  forms_unplaced no_forms = no_forms
  forms_unplaced (form f fs) = form (form_unplaced f) (forms_unplaced fs)

  pub binds_unplaced : LetBinds → LetBinds
  binds_unplaced no_binds = no_binds
  binds_unplaced (bind n f bs) = bind (name_unplaced n) (form_unplaced f) (binds_unplaced bs)

-- a result whose fault has the place 0
abbrev pub result_unplaced : {A : Type 0} → Result A Refusal → Result A Refusal
result_unplaced (Ok a) = Ok a
result_unplaced (Err refusal) = Err (record refusal { at = 0 })

-- the script but for the terms that were read and the names that lets bound
abbrev pub without_reads : Script → Script
without_reads s = record s { terms = []; let_names = [] }

-- Two scripts differ in these alone. So each name means the same in both.
abbrev pub SayTheSame : Script → Script → Type 0
SayTheSame s u = without_reads s ≡ without_reads u

-- Two readings come to one result but for the place of a fault, and leave scripts that say the same of names.
pub record EndAlike {A : Type 0} (o q : Outcome Script A) : Type 0 where
  pub results : result_unplaced o.result ≡ result_unplaced q.result
  pub states : SayTheSame o.state q.state
