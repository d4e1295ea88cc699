-- Arguments of an application that are symbols, read where they stand: as if the application were open, and each had a turn.
use Rattle.std.proofs.Common.{◌≡◌, ◌≢◌, ℕ, ◌+◌, ◌≤◌, ◌<◌, arith, refl, sym, ap, subst, List, [], ◌∷◌, ◌++◌, length, Result, Ok, Err, IfOk, IfErr}
use Rattle.std.proofs.lemmas.Result.{IfOk-weaker}
use Rattle.sym_table.specs.Table.{Table}
use Rattle.term_pool.specs.Views.{TermsView, KeepsTerms}
use Rattle.term_pool.proofs.Keeping.{terms-refl, terms-trans}
use Rattle.text_items.specs.ItemShapes.{Name}
use Rattle.text_items.specs.ItemsAt.{ItemsView}
use Rattle.text_items.specs.Stepping.{name_in}
use Rattle.problem_text.specs.Names.{Place}
use Rattle.problem_text.specs.Scripts.{Script}
use Rattle.term_expansion.specs.SymbolsAndTerms.{both}
use Rattle.term_expansion.specs.declared.values.Value.{Value}
use Rattle.term_names.specs.Standing.{GrowByTerms}
use Rattle.term_names.specs.declared.faults.ReadFault.{ReadFault}
use Rattle.term_names.specs.declared.settings.ReadSettings.{ReadSettings}
use Rattle.term_reader.specs.Credits.{credit, node_of, bound_of, effort}
use Rattle.term_reader.specs.Frames.{WholeReading}
use Rattle.term_reader.specs.Layers.{form_at}
use Rattle.term_reader.specs.Leaving.{with_open, Spends, Leaves}
use Rattle.term_reader.specs.ReadingViews.{ReadingView, reader_in}
use Rattle.term_reader.specs.ShapeFaults.{IsLayer}
use Rattle.term_reader.specs.Turns.{ReaderStands, IsAt, HasRead, Goes}
use Rattle.term_reader.specs.declared.frames.Frame.{Frame}
use Rattle.term_reader.specs.declared.frames.OpenArguments.{OpenArguments}
use Rattle.term_reader.specs.declared.layers.Layer.{Layer}
use Rattle.term_reader.specs.declared.reader.Reader.{Reader}
use Rattle.term_reader.specs.declared.reader.Turn.{Turn}
use Rattle.term_reader.proofs.EnteringTerms.{IsSymbolRead, symbol_goes, symbol_fails_goes, at_opened, opened_goes}
use Rattle.term_reader.proofs.LeavingArguments.{arguments_go_on}
use Rattle.term_reader.proofs.ReadingTurns.{turns}
use Rattle.term_reader.proofs.Settled.{nothing_made}
use Rattle.term_reader.proofs.Staying.{adds_none}

-- the reader as if the application were open
abbrev pub opened : ReadSettings → OpenArguments → Reader → ReadingView
opened e form r = with_open (reader_in e r) (Frame.Arguments form)

-- some reading is at an argument of it
abbrev pub IsAtSome : ItemsView → ReadSettings → OpenArguments → Table → TermsView → Reader → ℕ → Type 0
IsAtSome items e form s v r k = (g : WholeReading) × IsAt items g (both s v) (opened e form r) k

-- Of the arguments from node k on, those before node `at` were read.
pub record HasArguments (items : ItemsView) (e : ReadSettings) (form : OpenArguments) (s : Table) (v : TermsView) (r : Reader) (k : ℕ) (w : TermsView)
    (q : Reader) (at : ℕ) : Type 0 where
  pub goes : (g : WholeReading) → IsAt items g (both s v) (opened e form r) k → Goes items g v (both s w) (opened e form q) (Ok (Turn.Read at))
  pub keeps : KeepsTerms v w
  pub own : q.names.own ≡ r.names.own
  pub frames : q.frames ≡ r.frames
  pub later : k ≤ at

pub no_arguments : (items : ItemsView) (e : ReadSettings) (form : OpenArguments) (s : Table) (v : TermsView) (r : Reader) (k : ℕ)
    → HasArguments items e form s v r k v r k
no_arguments items e form s v r k = record {
  goes = λ g a. nothing_made items g s v (opened e form r) (Ok (Turn.Read k)) a;
  keeps = terms-refl v;
  own = refl;
  frames = refl;
  later = omega arith;
}

only_terms : (s : Table) (v w : TermsView) → KeepsTerms v w → GrowByTerms (both s v) (both s w)
only_terms s v w keeps = record { symbols = adds_none s; terms = keeps }

-- what the reader stands for does not hang on the form
closed : (s : Table) (v : TermsView) (e : ReadSettings) (form : OpenArguments) (r : Reader) (sc : Script) (p : Place)
    → ReaderStands (both s v) (opened e form r) sc p → ReaderStands (both s v) (reader_in e r) sc p
closed s v e form r sc p h = record { script = h.script; scope = h.scope; settings = h.settings; low = h.low }

module _ (items : ItemsView) (e : ReadSettings) (form : OpenArguments) (s : Table) (v : TermsView) (r : Reader) (k : ℕ) (w : TermsView) (q : Reader) (at : ℕ)
    (h : HasArguments items e form s v r k w q at) where
  pub at_some : IsAtSome items e form s v r k → IsAtSome items e form s w q at
  at_some (g, a) = (g, (h.goes g a).answer)

  pub some_reader : IsAtSome items e form s v r k → (sc : Script) × (p : Place) × ReaderStands (both s w) (reader_in e q) sc p
  some_reader (g, a) =
      let b = (h.goes g a).answer in
      (b.script, b.place, closed s w e form q b.script b.place b.stands)

  -- The form is opened here.
  module _ (new : Reader) (result : Result Turn ReadFault)
      (is : IfOk result (λ (t : Turn). (t ≡ Turn.Read at) × (new ≡ record q { frames = Frame.Arguments form ∷ q.frames }))) where
    pub opened_here : IfErr result (λ (f : ReadFault). f ≡ ReadFault.Memory)
        → (g : WholeReading) → IsAt items g (both s v) (opened e form r) k → Goes items g v (both s w) (reader_in e new) result
    opened_here fault g a =
        turns items g v s w (opened e form q) (Turn.Read at) s w (reader_in e new) result (h.goes g a)
        (λ b. opened_goes e q new (Frame.Arguments form) at result is items g s w fault
        (nothing_made items g s w (opened e form q) (Ok (Turn.Read at)) b))
        (only_terms s w w (terms-refl w))

    module _ (inside : at < length items.nodes) where
      same_credit : credit q.frames ≡ credit r.frames
      same_credit = ap credit h.frames

      same_count : length q.frames ≡ length r.frames
      same_count = ap (λ (fs : List Frame). length fs) h.frames

      pub opened_inside : IfOk result (λ (t : Turn). node_of t ≤ length items.nodes)
      opened_inside = at_opened e q new (Frame.Arguments form) at result is (λ (o : ReadingView) (t : Turn). node_of t ≤ length items.nodes) (omega arith)

      pub opened_few : IfOk result (λ (t : Turn). bound_of s items.nodes new.frames (node_of t) ≤ bound_of s items.nodes (Frame.Arguments form ∷ r.frames) k)
      opened_few =
          at_opened e q new (Frame.Arguments form) at result is
          (λ (o : ReadingView) (t : Turn). bound_of s items.nodes o.frames (node_of t) ≤ bound_of s items.nodes (Frame.Arguments form ∷ r.frames) k)
          (omega (arith, same_credit, h.later))

      pub opened_progress : IfOk result (λ (t : Turn). effort items.nodes new.frames t ≤ effort items.nodes (Frame.Arguments form ∷ r.frames) (Turn.Read k))
      opened_progress =
          at_opened e q new (Frame.Arguments form) at result is
          (λ (o : ReadingView) (t : Turn). effort items.nodes o.frames t ≤ effort items.nodes (Frame.Arguments form ∷ r.frames) (Turn.Read k))
          (omega (arith, same_count, h.later))

    pub opened_own : IfOk result (λ (t : Turn). new.names.own ≡ r.names.own)
    opened_own =
        at_opened e q new (Frame.Arguments form) at result is (λ (o : ReadingView) (t : Turn). o.names.known.own ≡ r.names.own) h.own

  -- the argument is a symbol
  module _ (top : IsLayer items at Layer.Symbol (form_at items at)) (n : Name) (is : n ≡ name_in items at) (x : TermsView) (keeps : KeepsTerms w x) where
    opened_reads : (result : Result Value ReadFault) → IsSymbolRead s w (reader_in e q) n x result → IsSymbolRead s w (opened e form q) n x result
    opened_reads result reads sc p stands = reads sc p (closed s w e form q sc p stands)

    pub symbol_refused : (fault : ReadFault) (o : ReadingView) → IsSymbolRead s w (reader_in e q) n x (Err fault)
        → (g : WholeReading) → IsAt items g (both s v) (opened e form r) k → Goes items g v (both s x) o (Err fault)
    symbol_refused fault o reads g a =
        turns items g v s w (opened e form q) (Turn.Read at) s x o (Err fault) (h.goes g a)
        (λ b. symbol_fails_goes items g s w (opened e form q) at x n fault o (record { at = b; top = top }) is (opened_reads (Err fault) reads))
        (only_terms s w x keeps)

    module _ (c : Value) (reads : IsSymbolRead s w (reader_in e q) n x (Ok c)) where
      pub symbol_read : (g : WholeReading) → IsAt items g (both s v) (opened e form r) k
          → Goes items g v (both s x) (opened e form q) (Ok (Turn.Use c (at + 1)))
      symbol_read g a =
          turns items g v s w (opened e form q) (Turn.Read at) s x (opened e form q) (Ok (Turn.Use c (at + 1))) (h.goes g a)
          (λ b. symbol_goes items g s w (opened e form q) at x n c (record { at = b; top = top }) is keeps (opened_reads (Ok c) reads))
          (only_terms s w x keeps)

      -- memory is refused behind it
      pub symbol_forgotten : (o : ReadingView) (g : WholeReading) → IsAt items g (both s v) (opened e form r) k → Goes items g v (both s x) o (Err ReadFault.Memory)
      symbol_forgotten o g a = record { answer = tt; placed = (symbol_read g a).placed }

      -- it is the last one
      module _ (last : at + 1 ≡ form.end) where
        pub last_read : (g : WholeReading) → IsAt items g (both s v) (opened e form r) k → HasRead items g (both s x) (opened e form q) c form.end
        last_read g a = subst (λ (m : ℕ). HasRead items g (both s x) (opened e form q) c m) last (symbol_read g a).answer

        pub last_goes : (y : TermsView) (o : ReadingView) (result : Result Turn ReadFault) → KeepsTerms x y
            → ((g : WholeReading) → HasRead items g (both s x) (opened e form q) c form.end
            → Leaves items g (both s x) (opened e form q) c form.end (both s y) o result)
            → (g : WholeReading) → IsAt items g (both s v) (opened e form r) k → Goes items g v (both s y) o result
        last_goes y o result more leaves g a =
            turns items g v s x (opened e form q) (Turn.Use c (at + 1)) s y o result (symbol_read g a)
            (λ b. (leaves g (last_read g a)).goes) (only_terms s x y more)

        -- what is left to be done
        module _ (inside : at < length items.nodes) (o : Reader) (result : Result Turn ReadFault)
            (spends : IfOk result (λ (t : Turn). Spends items s (opened e form q) (Turn.Use c form.end) s (reader_in e o) t)) where
          pub last_inside : IfOk result (λ (t : Turn). node_of t ≤ length items.nodes)
          last_inside = IfOk-weaker result _ _ (λ t z. z.inside) spends

          pub last_few : IfOk result (λ (t : Turn). bound_of s items.nodes o.frames (node_of t) ≤ bound_of s items.nodes (Frame.Arguments form ∷ r.frames) k)
          last_few = IfOk-weaker result _ _
              (λ t z. let few = z.few in let same : credit q.frames ≡ credit r.frames = ap credit h.frames in let later = h.later in omega arith) spends

          pub last_progress : IfOk result (λ (t : Turn). effort items.nodes o.frames t ≤ effort items.nodes (Frame.Arguments form ∷ r.frames) (Turn.Read k))
          last_progress = IfOk-weaker result _ _
              (λ t z.
              let less = z.progress in
              let same : length q.frames ≡ length r.frames = ap (λ (fs : List Frame). length fs) h.frames in
              let later = h.later in omega arith) spends

      -- others stand behind it
      pub next_argument : (o : Reader) → at + 1 ≢ form.end → o ≡ record q { values = q.values ++ c ∷ [] } → HasArguments items e form s v r k x o (at + 1)
      next_argument o more pushed = subst (λ (z : Reader). HasArguments items e form s v r k x z (at + 1)) (sym pushed)
          (record {
            goes = λ g a.
                let read = symbol_read g a in
                record { answer = arguments_go_on items g s x (reader_in e q) c (at + 1) form read.answer more; placed = read.placed };
            keeps = terms-trans v w x h.keeps keeps;
            own = h.own;
            frames = h.frames;
            later = let e = h.later in omega arith;
          })
