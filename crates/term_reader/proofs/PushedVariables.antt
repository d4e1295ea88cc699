-- Variables that were pushed onto a reader of terms, and what the reader stands for then.
use Rattle.std.proofs.Common.{◌≡◌, ◌<◌, ℕ, zero, suc, List, [], ◌∷◌, ◌++◌, map, reverse, length, get_or, Option, Some, None, is_some, true, Result, Ok, refl, sym, ap, subst, ◌∙◌, arith}
use Rattle.std.proofs.lemmas.List.{reverse-append}
use Rattle.std.specs.Option.{option_to_list}
use Rattle.sym_table.specs.Table.{Table, IsLeaf}
use Rattle.term_model.specs.Terms.{Var}
use Rattle.term_pool.specs.StandsFor.{variable_leaf}
use Rattle.term_pool.specs.Views.{TermsView}
use Rattle.term_names.specs.InScope.{IsScope}
use Rattle.problem_text.specs.Names.{Bound, Place, itself}
use Rattle.term_reader.specs.Lately.{LatelyView, AreRight, IsReadOnce}
use Rattle.term_reader.specs.ProblemViews.{ReaderView, IsReaderOf, HasEntered, ReadsTerm, ReadsValue}
use Rattle.term_reader.specs.Reading.{IsReaderIdle, IsTermRead, ComesTo, terms_read}
use Rattle.term_names.specs.Scope.{Scoped, OwnNames}
use Rattle.problem_text.specs.TypedTerms.{Typed}
use Rattle.problem_text.specs.Outcomes.{Outcome}
use Rattle.problem_text.specs.Scripts.{Script}
use Rattle.term_names.specs.Standing.{AreLeavesOf}
use Rattle.term_names.specs.declared.faults.ReadFault.{ReadFault}
use Rattle.term_names.specs.declared.settings.ReadSettings.{ReadSettings}
use Rattle.term_reader.specs.declared.reader.Reader.{Reader}
use Rattle.term_reader.proofs.Coming.{answered, answers_more}
use Rattle.term_reader.specs.ReadingViews.{ReadingView, reader_in}
use Rattle.term_expansion.specs.declared.values.Value.{Value}
use Rattle.term_expansion.specs.SymbolsAndTerms.{SymbolsAndTerms, both}

-- the leaves of two lists, one behind the other
leaves_apart : (s : Table) (ks js : List ℕ) (xs : List Var) → AreLeavesOf s (ks ++ js) xs
    → ((ys : List Var) × AreLeavesOf s ks ys) × ((zs : List Var) × AreLeavesOf s js zs)
leaves_apart s [] js xs h = (([], tt), (xs, h))
leaves_apart s (k ∷ ks) js [] h = absurd h
leaves_apart s (k ∷ ks) js (x ∷ xs) h = let (front, back) = leaves_apart s ks js xs h.1 in ((x ∷ front.0, (h.0, front.1)), back)

-- each of the leaves is that of a variable
pub some_variable : (s : Table) (ks : List ℕ) (xs : List Var) (i d : ℕ) → AreLeavesOf s (reverse ks) xs → i < length ks
    → (x : Var) × IsLeaf s (get_or ks i d) (variable_leaf x)
some_variable s [] xs i d h below = absurd (omega arith)
some_variable s (k ∷ ks) xs zero d h below = last (leaves_apart s (reverse ks) (k ∷ []) xs (subst (λ js. AreLeavesOf s js xs) (reverse-append (k ∷ []) ks) h)).1
  where
    last : (zs : List Var) × AreLeavesOf s (k ∷ []) zs → (x : Var) × IsLeaf s k (variable_leaf x)
    last ([], g) = absurd g
    last (z ∷ zs, g) = (z, g.0)
some_variable s (k ∷ ks) xs (suc i) d h below =
    let (front, back) = leaves_apart s (reverse ks) (k ∷ []) xs (subst (λ js. AreLeavesOf s js xs) (reverse-append (k ∷ []) ks) h) in
    some_variable s ks front.0 i d front.1 (omega arith)

-- the leaves of the prefix are in scope, the first one outermost
abbrev pub AreEntered : Table → TermsView → List ℕ → List Scoped → List Scoped → Type 0
AreEntered s v front before after =
    (xs : List Var) (bs : List Bound) → AreLeavesOf s (reverse front) xs → IsScope (both s v) before bs → IsScope (both s v) after (map itself xs ++ bs)

-- A reader with one more variable.
pub reader_pushed : (s : Table) (v : TermsView) (r : ReaderView) (k : ℕ) (sc : Script) (p : Place) (x : Var) → IsLeaf s k (variable_leaf x)
    → IsReaderOf s v r sc p
    → IsReaderOf s v (record r { pushed = k ∷ r.pushed }) sc (record p { scope = itself x ∷ p.scope })
reader_pushed s v r k sc p x e h = record {
  variables = x ∷ h.variables;
  around = h.around;
  scope = ap (λ bs. itself x ∷ bs) h.scope;
  pushed = (e, h.pushed);
  idle = h.idle;
  lists = h.lists;
}

-- a reader without the last variable that was pushed
first_unpushed : (s : Table) (v : TermsView) (r : ReaderView) (k : ℕ) (ks : List ℕ) (sc : Script) (p : Place) (x : Bound) (outer : List Bound)
    → r.pushed ≡ k ∷ ks → p.scope ≡ x ∷ outer → IsReaderOf s v r sc p → IsReaderOf s v (record r { pushed = ks }) sc (record p { scope = outer })
first_unpushed s v r k ks sc p x outer is scope h = go h.variables (subst (λ js. AreLeavesOf s js h.variables) is h.pushed) h.scope
  where
    go : (xs : List Var) → AreLeavesOf s (k ∷ ks) xs → p.scope ≡ map itself xs ++ h.around → IsReaderOf s v (record r { pushed = ks }) sc (record p { scope = outer })
    go [] leaves e = absurd leaves
    go (y ∷ ys) leaves e =
        let both_ways : x ∷ outer ≡ itself y ∷ (map itself ys ++ h.around) = sym scope ∙ e in
        let same : outer ≡ map itself ys ++ h.around = cc in
        record { variables = ys; around = h.around; scope = same; pushed = leaves.1; idle = h.idle; lists = h.lists }

pub reader_unpushed : (s : Table) (v : TermsView) (r : ReadingView) (l : LatelyView) (items left : List ℕ) (o : Option ℕ) (sc : Script) (p : Place)
    (x : Bound) (outer : List Bound) → items ≡ left ++ option_to_list o → is_some o ≡ true → p.scope ≡ x ∷ outer
    → IsReaderOf s v (record { reader = r; pushed = reverse items; lately = l }) sc p
    → IsReaderOf s v (record { reader = r; pushed = reverse left; lately = l }) sc (record p { scope = outer })
reader_unpushed s v r l items left None sc p x outer is some scope h = absurd (cc)
reader_unpushed s v r l items left (Some k) sc p x outer is some scope h =
    first_unpushed s v _ k (reverse left) sc p x outer (ap reverse is ∙ reverse-append left (k ∷ [])) scope h

-- a reader that keeps other lists, which are right wherever they are read
pub reader_keeping : (s : Table) (v : TermsView) (r : ReaderView) (l : LatelyView) (sc : Script) (p : Place)
    → ((w : SymbolsAndTerms) (q : Place) (u : Script) → AreRight w q u l) → IsReaderOf s v r sc p → IsReaderOf s v (record r { lately = l }) sc p
reader_keeping s v r l sc p right h = record {
  variables = h.variables;
  around = h.around;
  scope = h.scope;
  pushed = h.pushed;
  idle = h.idle;
  lists = right (both s v) _ sc;
}

-- a reader of which no variable is left to be put in scope
pub reader_settled : (s : Table) (v : TermsView) (r : ReaderView) (sc : Script) (p : Place) → HasEntered s v r sc p → IsReaderOf s v r sc p
reader_settled s v r sc p h = record { variables = []; around = p.scope; scope = refl; pushed = rw h.none tt; idle = h.idle; lists = h.lists }

-- the reader once all that were pushed are in scope
all_entered : (s : Table) (v : TermsView) (e : ReadSettings) (r : Reader) (pushed ks : List ℕ) (l : LatelyView) (names : OwnNames) (sc : Script) (p : Place)
    → reverse ks ≡ pushed → names.own ≡ r.names.own → AreEntered s v ks r.names.scope names.scope
    → IsReaderOf s v (record { reader = reader_in e r; pushed = pushed; lately = l }) sc p
    → IsReaderIdle (both s v) (reader_in e (record r { names = names })) sc p
all_entered s v e r pushed ks l names sc p is own entered h = record {
  script = rw own h.idle.script;
  scope = subst (IsScope (both s v) names.scope) (sym h.scope)
      (entered h.variables h.around (subst (λ js. AreLeavesOf s js h.variables) (sym is) h.pushed) h.idle.scope);
  settings = h.idle.settings;
  no_values = h.idle.no_values;
  no_leaves = h.idle.no_leaves;
  no_frames = h.idle.no_frames;
}

-- where some came in, no list is kept
pub some_entered : (s : Table) (v : TermsView) (e : ReadSettings) (r : Reader) (pushed ks left : List ℕ) (l m : LatelyView) (names : OwnNames) (sc : Script)
    (p : Place) → reverse ks ≡ pushed → names.own ≡ r.names.own → AreEntered s v ks r.names.scope names.scope → left ≡ []
    → ((w : SymbolsAndTerms) (q : Place) (u : Script) → AreRight w q u m) → IsReaderOf s v (record { reader = reader_in e r; pushed = pushed; lately = l }) sc p
    → HasEntered s v (record { reader = reader_in e (record r { names = names }); pushed = left; lately = m }) sc p
some_entered s v e r pushed ks left l m names sc p is own entered none right h =
    record { none = none; idle = all_entered s v e r pushed ks l names sc p is own entered h; lists = right (both s v) p sc }

-- where none had been pushed, the lists that are kept are right still
pub none_entered : (s : Table) (v : TermsView) (e : ReadSettings) (r : Reader) (pushed ks : List ℕ) (l : LatelyView) (names : OwnNames) (sc : Script) (p : Place)
    → reverse ks ≡ pushed → names.own ≡ r.names.own → AreEntered s v ks r.names.scope names.scope → pushed ≡ []
    → IsReaderOf s v (record { reader = reader_in e r; pushed = pushed; lately = l }) sc p
    → HasEntered s v (record { reader = reader_in e (record r { names = names }); pushed = pushed; lately = l }) sc p
none_entered s v e r pushed ks l names sc p is own entered none h = record {
  none = none;
  idle = all_entered s v e r pushed ks l names sc p is own entered h;
  lists = subst (λ bs. AreRight (both s v) (record { scope = bs; settings = p.settings }) sc l) (no_variables h.variables h.pushed ∙ sym h.scope) h.lists;
}
  where
    no_variables : (xs : List Var) → AreLeavesOf s pushed xs → h.around ≡ map itself xs ++ h.around
    no_variables [] leaves = refl
    no_variables (x ∷ xs) leaves = absurd (subst (λ js. AreLeavesOf s js (x ∷ xs)) none leaves)

-- the term of a value that was read, with no list kept
pub term_read : (s : Table) (old new : TermsView) (r : ReadingView) (l : LatelyView) (pushed : List ℕ) (p : Place) (whole : Outcome Script Typed) (c : Value) → pushed ≡ []
    → ((w : SymbolsAndTerms) (q : Place) (u : Script) → AreRight w q u l)
    → ComesTo terms_read old (both s new) (IsTermRead (both s new) r p) whole (Ok c)
    → ReadsTerm s old new (record { reader = r; pushed = pushed; lately = l }) p whole (Ok c.term)
term_read s old new r l pushed p whole c e right h =
    let a = h.answer in
    answered h (record {
      value = a.value;
      state = a.state;
      is = a.is;
      after = record {
        refers = a.after.is.refers;
        reader = reader_settled s new _ a.state p (record { none = e; idle = a.after.idle; lists = right (both s new) p a.state });
      };
    })

-- the value that was read, or the fault that none was read for
pub value_read : (s : Table) (old new : TermsView) (r : ReadingView) (l : LatelyView) (pushed : List ℕ) (p : Place) (whole : Outcome Script Typed)
    (result : Result Value ReadFault) → pushed ≡ [] → ComesTo terms_read old (both s new) (IsReadOnce (both s new) r p l) whole result
    → ReadsValue s old new (record { reader = r; pushed = pushed; lately = l }) p whole result
value_read s old new r l pushed p whole result e h =
    answers_more _ (λ c t sc is. record {
      is = is.read.is;
      low = is.read.low;
      reader = reader_settled s new _ sc p (record { none = e; idle = is.read.idle; lists = is.rows });
    }) h

-- the term of the value
pub term_of_value : (s : Table) (old new : TermsView) (r : ReaderView) (p : Place) (whole : Outcome Script Typed) (c : Value)
    → ReadsValue s old new r p whole (Ok c) → ReadsTerm s old new r p whole (Ok c.term)
term_of_value s old new r p whole c h =
    let a = h.answer in
    answered h (record { value = a.value; state = a.state; is = a.is; after = record { refers = a.after.is.refers; reader = a.after.reader } })
