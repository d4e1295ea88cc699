-- What a list that was read lately is read to again, and what a list that was read now will be.
use Rattle.std.proofs.Common.{◌≡◌, ℕ, List, Ok, sym, ap, ◌∙◌, subst, refl}
use Rattle.std.specs.Prelude.{slice_range}
use Rattle.sexpr.specs.Items.{Item, Items, list}
use Rattle.sexpr.specs.Spans.{IsListAt}
use Rattle.sym_table.specs.Table.{Table}
use Rattle.term_pool.specs.Views.{TermsView}
use Rattle.term_pool.proofs.PlacedCells.{places_none}
use Rattle.problem_text.specs.Alike.{SayTheSame}
use Rattle.problem_text.specs.Forms.{form_of}
use Rattle.problem_text.specs.Names.{Place}
use Rattle.problem_text.specs.Outcomes.{Outcome}
use Rattle.problem_text.specs.Scripts.{Script}
use Rattle.problem_text.specs.Terms.{read_term}
use Rattle.problem_text.specs.TypedTerms.{Typed}
use Rattle.problem_text.proofs.ReadAgain.{remembered, stand_for_stays}
use Rattle.term_expansion.specs.SymbolsAndTerms.{both}
use Rattle.term_expansion.specs.declared.values.Value.{Value}
use Rattle.term_names.specs.Known.{KnownView}
use Rattle.term_names.specs.Standing.{IsScript, GrowByTerms}
use Rattle.std.proofs.Common.{Option, Some, None, IfSome}
use Rattle.std.specs.Borrow.{Bor}
use Rattle.text_items.specs.ItemsAt.{ItemsView, item_at}
use Rattle.text_items.specs.Stepping.{IsListThere}
use Rattle.term_reader.specs.Lately.{LatelyView, IsRight, AreRight, IsReadOnce}
use Rattle.term_reader.specs.Reading.{terms_read, Gives, ComesTo, IsReaderIdle, IsTermRead}
use Rattle.term_reader.specs.ReadingViews.{ReadingView}
use Rattle.term_reader.proofs.MoreRead.{with_read, same_script}
use Rattle.term_reader.proofs.Staying.{value_stays, grow_by_terms_none}
use Rattle.term_reader.proofs.Unnamed.{unnamed}

-- a script that differs in what was read alone
only_read : (sc u : Script) → SayTheSame sc u → with_read u.terms u.let_names sc ≡ u
only_read sc u same = ap (with_read u.terms u.let_names) same

script_again : (s : Table) (v : TermsView) (k : KnownView) (sc u : Script) → SayTheSame sc u → IsScript (both s v) k sc → IsScript (both s v) k u
script_again s v k sc u same h = subst (λ x. IsScript (both s v) k x) (only_read sc u same) (same_script s v k u.terms u.let_names sc h)

-- what an idle reader stands for, it stands for behind each script that says the same of names
pub idle_behind : (s : Table) (v : TermsView) (r : ReadingView) (sc u : Script) (p : Place) → SayTheSame sc u → IsReaderIdle (both s v) r sc p
    → IsReaderIdle (both s v) r u p
idle_behind s v r sc u p same idle = record {
  script = script_again s v r.names.known sc u same idle.script;
  scope = idle.scope;
  settings = idle.settings;
  no_values = idle.no_values;
  no_leaves = idle.no_leaves;
  no_frames = idle.no_frames;
}

-- The list that was read now, after which the reader has the entries that it had.
read_now : (s z : Table) (v w : TermsView) (r q : ReadingView) (sc : Script) (p : Place) (text : List ℕ) (at end : ℕ) (items : Items) (c : Value)
    → IsReaderIdle (both s v) r sc p → IsListAt text at end items → q.names.known ≡ r.names.known
    → (h : Gives (IsTermRead (both z w) q p) (read_term (list at items) p sc) c) → IsRight (both z w) p h.state (slice_range text at end) c
read_now s z v w r q sc p text at end items c idle there own h =
    let last : (read_term (list at items) p sc).state ≡ h.state = ap (λ (o : Outcome Script Typed). o.state) h.is in
    let script : IsScript (both z w) r.names.known (read_term (list at items) p sc).state =
    subst (λ k. IsScript (both z w) k (read_term (list at items) p sc).state) own (subst (λ u. IsScript (both z w) q.names.known u) (sym last) h.after.idle.script) in
    let same : SayTheSame sc h.state = subst (SayTheSame sc) last (unnamed (both s v) (both z w) r.names.known (form_of (list at items)) p sc idle.script script) in
    record {
      term = h.value;
      stand = remembered p sc text at end items h.value (record { last = h.state; is = h.is; same = same }) there;
      is = h.after.is;
      low = h.after.low;
    }

-- What is right stays so, as terms are read that give no name.
pub rows_stay : (s z : Table) (v w : TermsView) (p : Place) (sc u : Script) (l : LatelyView) → GrowByTerms (both s v) (both z w) → SayTheSame sc u → AreRight (both s v) p sc l → AreRight (both z w) p u l
rows_stay s z v w p sc u l grow same are k row here now =
    let r = are k row here now in
    record {
      term = r.term;
      stand = stand_for_stays p sc u _ r.term same r.stand;
      is = value_stays s z v w grow.symbols.keeps grow.terms row.value r.term r.is;
      low = r.low;
    }

-- The list at a node is found: nothing is placed, and the reader stands for the script after it.
pub list_found : (s : Table) (v : TermsView) (r : ReadingView) (sc : Script) (p : Place) (items : ItemsView) (k : ℕ) (bytes : List ℕ) (c : Value) (l : LatelyView)
    → IsReaderIdle (both s v) r sc p → IsListThere items k bytes → IsRight (both s v) p sc bytes c → AreRight (both s v) p sc l
    → ComesTo terms_read v (both s v) (IsReadOnce (both s v) r p l) (read_term (item_at items k) p sc) (Ok c)
list_found s v r sc p items k bytes c l idle there right rows =
    let h = right.stand items.source there.at there.end there.inside there.there there.same in
    subst (λ (i : Item). ComesTo terms_read v (both s v) (IsReadOnce (both s v) r p l) (read_term i p sc) (Ok c)) (sym there.is)
    (record {
      answer = record {
        value = right.term;
        state = h.last;
        is = h.is;
        after = record {
          read = record { is = right.is; low = right.low; idle = idle_behind s v r sc h.last p h.same idle };
          rows = rows_stay s s v v p sc h.last l (grow_by_terms_none (both s v)) h.same rows;
        };
      };
      placed = places_none s v.pass v.pass _ refl;
    })

-- a term was read that gives no name
pub read_kept : (s z : Table) (v w : TermsView) (r q : ReadingView) (sc : Script) (p : Place) (items : ItemsView) (k : ℕ) (o : Option (Bor (List ℕ))) (c : Value) (l m : LatelyView)
    → IsReaderIdle (both s v) r sc p → IfSome o (λ b. IsListThere items k b.now) → q.names.known ≡ r.names.known → GrowByTerms (both s v) (both z w) → AreRight (both s v) p sc l
    → ((u : Script) → AreRight (both z w) p u l → IfSome o (λ b. IsRight (both z w) p u b.now c) → AreRight (both z w) p u m)
    → ComesTo terms_read v (both z w) (IsTermRead (both z w) q p) (read_term (item_at items k) p sc) (Ok c)
    → ComesTo terms_read v (both z w) (IsReadOnce (both z w) q p m) (read_term (item_at items k) p sc) (Ok c)
read_kept s z v w r q sc p items k o c l m idle there own grow rows keeps h =
    let a = h.answer in
    let last : (read_term (item_at items k) p sc).state ≡ a.state = ap (λ (x : Outcome Script Typed). x.state) a.is in
    let script : IsScript (both z w) r.names.known (read_term (item_at items k) p sc).state =
    subst (λ n. IsScript (both z w) n (read_term (item_at items k) p sc).state) own (subst (λ u. IsScript (both z w) q.names.known u) (sym last) a.after.idle.script) in
    let same : SayTheSame sc a.state = subst (SayTheSame sc) last (unnamed (both s v) (both z w) r.names.known (form_of (item_at items k)) p sc idle.script script) in
    record {
      answer = record {
        value = a.value;
        state = a.state;
        is = a.is;
        after = record { read = a.after; rows = keeps a.state (rows_stay s z v w p sc a.state l grow same rows) (new_row o there) };
      };
      placed = h.placed;
    }
  where
    new_row : (o : Option (Bor (List ℕ))) → IfSome o (λ b. IsListThere items k b.now) → IfSome o (λ b. IsRight (both z w) p h.answer.state b.now c)
    new_row None there = tt
    new_row (Some b) there =
        let a = h.answer in
        subst (λ bytes. IsRight (both z w) p a.state bytes c) there.same
        (read_now s z v w r q sc p items.source there.at there.end there.inside c idle there.there own
        (record { value = a.value; state = a.state; is = ap (λ (i : Item). read_term i p sc) (sym there.is) ∙ a.is; after = a.after }))
