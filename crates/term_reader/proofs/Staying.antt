-- Cited by crates above. What the code holds stays what it is, as the table of symbols grows and as the pass comes to know more; and the cells
-- that were placed stay cells of what was wanted.
use Rattle.std.proofs.Common.{◌≡◌, ◌≢◌, ◌⊎◌, inl, inr, ℕ, ℤ, ◌+◌, ◌≤◌, zero, suc, refl, ◌∙◌, ap, arith, List, [], ◌∷◌, ◌++◌, length, take, drop, slice_get, Option, Some, None}
use Rattle.std.proofs.lemmas.List.{length-append}
use Rattle.sym_table.specs.Leaf.{Leaf, nil, let_head, operator, function}
use Rattle.sym_table.specs.Table.{Table, IsLeaf, IsFunctionNamed, FindsOrAdds, Keeps}
use Rattle.sym_table.proofs.Tables.{keeps_table}
use Rattle.term_model.specs.Terms.{Var, Fun, Term}
use Rattle.term_pool.specs.StandsFor.{variable_leaf, function_leaf}
use Rattle.term_pool.specs.Views.{TermsView, RefersTo, KeepsTerms, ReferToAll}
use Rattle.term_pool.proofs.Keeping.{terms-refl, terms-trans}
use Rattle.term_pool.proofs.Growth.{stays}
use Rattle.problem_text.specs.Forms.{LetBinds}
use Rattle.term_names.specs.Heads.{IsSymbolOf, IsMacroMeant, HeadMeans}
use Rattle.term_reader.specs.Frames.{HasArgumentsSoFar, HasBindings, HasBody, WholeReading, AreFrames}
use Rattle.term_expansion.specs.Free.{AreFreeLeaves}
use Rattle.term_names.specs.InScope.{IsInScope, IsScope, AreValuesBound}
use Rattle.term_names.specs.Known.{KnownView, known_entry, macro_of}
use Rattle.problem_text.specs.Names.{Bound, Place, Meaning}
use Rattle.term_reader.specs.Turns.{ReaderStands}
use Rattle.term_reader.specs.Resuming.{Waiting}
use Rattle.term_names.specs.Scope.{Scoped}
use Rattle.problem_text.specs.TypedTerms.{Typed}
use Rattle.problem_text.specs.Scripts.{Macro, Named, Script}
use Rattle.term_names.specs.Standing.{AreLeavesOf, IsMacroOf, IsNamedOf, IsFunctionAt, IsNoFunction, IsFreeName, IsNameMeant, IsScript, AddsNoSymbols, GrowByTerms}
use Rattle.term_expansion.specs.Values.{IsValue, AreValues, PutsIn}
use Rattle.term_model.proofs.Zips.{zip_weaken}
use Rattle.term_names.specs.declared.entries.Macro as held_macro
use Rattle.term_names.specs.declared.entries.Named as held_named
use Rattle.term_reader.specs.declared.frames.Frame.{Frame}
use Rattle.term_names.specs.declared.heads.Head.{Head}
use Rattle.term_names.specs.declared.names.KnownEntry.{KnownEntry}
use Rattle.term_names.specs.declared.names.Which.{Which}
use Rattle.text_items.specs.ItemsAt.{ItemsView, end_at}
use Rattle.term_reader.specs.ReadingViews.{ReadingView}
use Rattle.term_expansion.specs.declared.values.Bound as bound
use Rattle.term_expansion.specs.declared.values.Value.{Value}
use Rattle.term_expansion.specs.SymbolsAndTerms.{SymbolsAndTerms, both, Grow}

pub table_keeps_then : (s t z : Table) → Keeps s t → Keeps t z → Keeps s z
table_keeps_then s t z h g = record {
  leaves = λ k l e. g.leaves k l (h.leaves k l e);
  sorts = λ n name e. g.sorts n name (h.sorts n name e);
}

pub adds_none : (s : Table) → AddsNoSymbols s s
adds_none s = record { keeps = keeps_table s; sorts = refl; functions = λ k f h. h }

pub adds_then : (s t z : Table) → AddsNoSymbols s t → AddsNoSymbols t z → AddsNoSymbols s z
adds_then s t z h g = record {
  keeps = table_keeps_then s t z h.keeps g.keeps;
  sorts = g.sorts ∙ h.sorts;
  functions = λ k f e. h.functions k f (g.functions k f e);
}

-- an item of a list with one more is an old one or that one
old_or_last : (ls : List Leaf) (m : Leaf) (k : ℕ) (l : Leaf) → slice_get (ls ++ m ∷ []) k ≡ Some l → (slice_get ls k ≡ Some l) ⊎ (m ≡ l)
old_or_last [] m zero l e = inr (cc)
old_or_last [] m (suc k) l e = absurd (cc)
old_or_last (x ∷ ls) m zero l e = inl e
old_or_last (x ∷ ls) m (suc k) l e = old_or_last ls m k l e

-- a leaf that is no function, found or added
pub adds_leaf : (old new : Table) (k : ℕ) (l : Leaf) → FindsOrAdds old new k l → Keeps old new → ((f : Fun) → l ≢ function_leaf f) → AddsNoSymbols old new
adds_leaf old new k l (inl h) keeps never = rw h.1 (adds_none old)
adds_leaf old new k l (inr h) keeps never =
    record { keeps = keeps; sorts = ap (λ (t : Table). t.sorts) h.2; functions = λ j f e. go j f (old_or_last old.leaves l j (function_leaf f) (rw (ap (λ (t : Table). t.leaves) h.2) at e)) }
  where
    go : (j : ℕ) (f : Fun) → IsLeaf old j (function_leaf f) ⊎ (l ≡ function_leaf f) → IsLeaf old j (function_leaf f)
    go j f (inl e) = e
    go j f (inr e) = absurd (never f e)

pub adds_numeral : (old new : Table) (k : ℕ) (n : ℤ) → FindsOrAdds old new k (Leaf.numeral n) → Keeps old new → AddsNoSymbols old new
adds_numeral old new k n found keeps = adds_leaf old new k (Leaf.numeral n) found keeps (λ f e. cc)

pub adds_variable : (old new : Table) (k : ℕ) (x : Var) → FindsOrAdds old new k (variable_leaf x) → Keeps old new → AddsNoSymbols old new
adds_variable old new k x found keeps = adds_leaf old new k (variable_leaf x) found keeps (λ f e. cc)

pub leaf_more : (old new : Table) (k : ℕ) (l : Leaf) → FindsOrAdds old new k l → length new.leaves ≤ length old.leaves + 1
leaf_more old new k l (inl h) = rw h.1 (omega arith)
leaf_more old new k l (inr h) =
    let e : length new.leaves ≡ length (old.leaves ++ l ∷ []) = ap (λ (t : Table). length t.leaves) h.2 in
    let f = length-append old.leaves (l ∷ []) in
    omega arith

pub grow_none : (w : SymbolsAndTerms) → Grow w w
grow_none w = record { symbols = keeps_table w.symbols; terms = terms-refl w.terms }

pub grow_then : (u v w : SymbolsAndTerms) → Grow u v → Grow v w → Grow u w
grow_then u v w h g = record {
  symbols = table_keeps_then u.symbols v.symbols w.symbols h.symbols g.symbols;
  terms = terms-trans u.terms v.terms w.terms h.terms g.terms;
}

pub grow_by_terms_none : (w : SymbolsAndTerms) → GrowByTerms w w
grow_by_terms_none w = record { symbols = adds_none w.symbols; terms = terms-refl w.terms }

pub grow_by_terms_then : (u v w : SymbolsAndTerms) → GrowByTerms u v → GrowByTerms v w → GrowByTerms u w
grow_by_terms_then u v w h g = record {
  symbols = adds_then u.symbols v.symbols w.symbols h.symbols g.symbols;
  terms = terms-trans u.terms v.terms w.terms h.terms g.terms;
}

-- what a tree stands for
module _ (s z : Table) (keeps : Keeps s z) where
  pub leaves_stay : (ks : List ℕ) (xs : List Var) → AreLeavesOf s ks xs → AreLeavesOf z ks xs
  leaves_stay = zip_weaken _ _ (λ k x h. keeps.leaves k (variable_leaf x) h)

  pub free_leaves_stay : (ks : List ℕ) (xs : List Var) → AreFreeLeaves s ks xs → AreFreeLeaves z ks xs
  free_leaves_stay ks xs h = record {
    each = λ k c. let (x, is, there) = h.each k c in (x, keeps.leaves k (variable_leaf x) is, there);
    all = λ x c. let (k, is, there) = h.all x c in (k, keeps.leaves k (variable_leaf x) is, there);
  }

  pub symbol_stays : (k : ℕ) (m : Meaning) → IsSymbolOf s k m → IsSymbolOf z k m
  symbol_stays k m (inl h) = inl (h.0, keeps.leaves k (function_leaf h.0) h.1, h.2)
  symbol_stays k m (inr h) = inr (h.0, keeps.leaves k (operator h.0) h.1, h.2)

-- values, and what is made of them
module _ (s z : Table) (v w : TermsView) (keeps : Keeps s z) (terms : KeepsTerms v w) where
  pub refers_stays : (r : ℕ) (t : Term) → RefersTo s v r t → RefersTo z w r t
  refers_stays r t h = record {
    tree = h.tree;
    known = terms.pass.grows r h.tree h.known;
    stands = stays s z keeps t h.tree h.stands;
  }

  pub all_stay : (rs : List ℕ) (ts : List Term) → ReferToAll s v rs ts → ReferToAll z w rs ts
  all_stay = zip_weaken (RefersTo s v) (RefersTo z w) refers_stays

  pub value_stays : (c : Value) (t : Typed) → IsValue (both s v) c t → IsValue (both z w) c t
  value_stays c t h = record { refers = refers_stays c.term t.tree h.refers; sort = h.sort; high = h.high; plain = h.plain }

  pub values_stay : (cs : List Value) (ts : List Typed) → AreValues (both s v) cs ts → AreValues (both z w) cs ts
  values_stay = zip_weaken (IsValue (both s v)) (IsValue (both z w)) value_stays

  pub puts_in_stays : (b : bound.Bound) (x : Var) (t : Term) → PutsIn (both s v) b x t → PutsIn (both z w) b x t
  puts_in_stays b x t h = record { leaf = keeps.leaves b.variable (variable_leaf x) h.leaf; value = value_stays b.value _ h.value }

  pub scope_stays : (es : List Scoped) (bs : List Bound) → IsScope (both s v) es bs → IsScope (both z w) es bs
  scope_stays = zip_weaken (IsInScope (both s v)) (IsInScope (both z w)) (λ e b h. (h.0, puts_in_stays e.bound b.variable b.stands_for h.1))

  pub bound_stays : (ks : List ℕ) (cs : List Value) (bs : List Bound) → AreValuesBound (both s v) ks cs bs → AreValuesBound (both z w) ks cs bs
  bound_stays ks cs bs h = record {
    leaves = zip_weaken _ _ (λ k b e. keeps.leaves k (variable_leaf b.variable) e) ks bs h.leaves;
    values = zip_weaken _ _ (λ c b e. value_stays c (record { tree = b.stands_for; sort = b.variable.sort }) e) cs bs h.values;
  }

  pub macro_stays : (m : held_macro.Macro) (d : Macro) → IsMacroOf (both s v) m d → IsMacroOf (both z w) m d
  macro_stays m d h = record {
    parameters = leaves_stay s z keeps m.parameters.items d.parameters h.parameters;
    sorts = h.sorts;
    target = h.target;
    body = value_stays m.body _ h.body;
    plain = h.plain;
  }

  pub named_stays : (n : held_named.Named) (d : Named) → IsNamedOf (both s v) n d → IsNamedOf (both z w) n d
  named_stays n d h = record {
    value = value_stays n.value d.meant h.value;
    low = h.low;
    free = free_leaves_stay s z keeps n.free.items _ h.free;
  }

  pub macro_meant_stays : (o : Option held_macro.Macro) (m : Meaning) → IsMacroMeant (both s v) o m → IsMacroMeant (both z w) o m
  macro_meant_stays o m h = (h.0, h.1, h.2, macro_stays h.0 h.1 h.3, h.4)

  pub head_stays : (k l : KnownView) → ((w : Which) → macro_of l w ≡ macro_of k w) → (head : Head) (m : Meaning) → HeadMeans (both s v) k head m
      → HeadMeans (both z w) l head m
  head_stays k l same (Head.Symbol n) m h = symbol_stays s z keeps n m h
  head_stays k l same (Head.Macro n) m h = rw (same n) (macro_meant_stays (macro_of k n) m h)
  head_stays k l same Head.Fixed m h = h

  -- open forms
  arguments_stay : (items : ItemsView) (k l : KnownView) → ((w : Which) → macro_of l w ≡ macro_of k w)
      → (head : Head) (from end n : ℕ) (values : List Value) (m : Meaning) (read : List Typed)
      → HasArgumentsSoFar items (both s v) k head from end n values m read → HasArgumentsSoFar items (both z w) l head from end n values m read
  arguments_stay items k l same head from end n values m read h = record {
    applies = head_stays k l same head m h.applies;
    within = h.within;
    read_values = values_stay (drop from values) read h.read_values;
    left_here = h.left_here;
  }

  bindings_stay_open : (items : ItemsView) (from first name repeat body n : ℕ) (values : List Value) (leaves : List ℕ) (read : List Bound)
      (earlier : List (List ℕ)) (left : LetBinds)
      → HasBindings items (both s v) from first name repeat body n values leaves read earlier left
      → HasBindings items (both z w) from first name repeat body n values leaves read earlier left
  bindings_stay_open items from first name repeat body n values leaves read earlier left h = record {
    within = h.within;
    leaves_within = h.leaves_within;
    read_bound = bound_stays (drop first leaves) (drop from values) read h.read_bound;
    variable = h.variable;
    left_here = h.left_here;
    first_faulty = h.first_faulty;
    body_here = h.body_here;
  }

  body_stays : (from first : ℕ) (values : List Value) (leaves : List ℕ) (scope : List Scoped) (p : Place) (bs : List Bound) (around : List Scoped)
      (outer : Place)
      → HasBody (both s v) from first values leaves scope p bs around outer → HasBody (both z w) from first values leaves scope p bs around outer
  body_stays from first values leaves scope p bs around outer h = record {
    within = h.within;
    leaves_within = h.leaves_within;
    bound_here = bound_stays (drop first leaves) (drop from values) bs h.bound_here;
    same_place = h.same_place;
    inner = h.inner;
    split = h.split;
    one_each = h.one_each;
    around_here = scope_stays around outer.scope h.around_here;
  }

  pub frames_stay : (items : ItemsView) (g : WholeReading) (k l : KnownView) → ((w : Which) → macro_of l w ≡ macro_of k w)
      → (fs : List Frame) (values : List Value) (leaves : List ℕ) (scope : List Scoped) (p : Place) (n : ℕ) (ws : List Waiting)
      → AreFrames items g (both s v) k fs values leaves scope p n ws → AreFrames items g (both z w) l fs values leaves scope p n ws
  frames_stay items g k l same [] values leaves scope p n ws h = h
  frames_stay items g k l same (Frame.Arguments opened ∷ fs) values leaves scope p n ws (m, read, rest, is, here, outer) = (
    m,
    read,
    rest,
    is,
    arguments_stay items k l same opened.head opened.from opened.end n values m read here,
    frames_stay items g k l same fs (take opened.from values) leaves scope p opened.end rest outer,
  )
  frames_stay items g k l same (Frame.Bindings opened ∷ fs) values leaves scope p n ws (read, earlier, left, rest, is, here, outer) = (
    read,
    earlier,
    left,
    rest,
    is,
    bindings_stay_open items opened.from opened.leaves opened.name opened.repeat opened.body n values leaves read earlier left here,
    frames_stay items g k l same fs (take opened.from values) (take opened.leaves leaves) scope p (end_at items opened.body) rest outer,
  )
  frames_stay items g k l same (Frame.Body opened ∷ fs) values leaves scope p n ws (bs, around, outside, rest, is, here, outer) = (
    bs,
    around,
    outside,
    rest,
    is,
    body_stays opened.from opened.leaves values leaves scope p bs around outside here,
    frames_stay items g k l same fs (take opened.from values) (take opened.leaves leaves) around outside n rest outer,
  )
  frames_stay items g k l same (Frame.Names end ∷ fs) values leaves scope p n ws (rest, is, here, outer) =
      (rest, is, here, frames_stay items g k l same fs values leaves scope p end rest outer)

-- what a script stands for
module _ (s z : Table) (v w : TermsView) (adds : AddsNoSymbols s z) (terms : KeepsTerms v w) where
  no_function_stays : (sc : Script) (name : List ℕ) → IsNoFunction s sc name → IsNoFunction z sc name
  no_function_stays sc name h = record { table = λ f. h.table (f.0, named f.0 (slice_get z.leaves f.0) refl f.1); script = h.script }
    where
      named : (k : ℕ) (o : Option Leaf) → slice_get z.leaves k ≡ o → IsFunctionNamed z k name → IsFunctionNamed s k name
      named k None e f = absurd (rw e at f)
      named k (Some (function a ss t)) e f =
          let there : IsLeaf s k (function a ss t) = adds.functions k (record { name = a; arguments = ss; target = t }) e in
          rw there (rw e at f)
      named k (Some nil) e f = absurd (let g = rw e at f in let b = g.0 in cc)
      named k (Some let_head) e f = absurd (let g = rw e at f in let b = g.0 in cc)
      named k (Some (operator op)) e f = absurd (let g = rw e at f in let b = g.0 in cc)
      named k (Some (Leaf.variable a t)) e f = absurd (let g = rw e at f in let b = g.0 in cc)
      named k (Some (Leaf.numeral n)) e f = absurd (let g = rw e at f in let b = g.0 in cc)

  function_at_stays : (sc : Script) (name : List ℕ) (n : ℕ) → IsFunctionAt s sc name n → IsFunctionAt z sc name n
  function_at_stays sc name n h = record {
    meant = h.meant;
    here = adds.keeps.leaves n (function_leaf h.meant) h.here;
    same_name = h.same_name;
    found = h.found;
    taken = h.taken;
  }

  free_name_stays : (sc : Script) (name : List ℕ) → IsFreeName s sc name → IsFreeName z sc name
  free_name_stays sc name h = record { no_function = no_function_stays sc name h.no_function; free = h.free }

  pub meant_stays : (k : KnownView) (sc : Script) (name : List ℕ) (o : Option KnownEntry) → IsNameMeant (both s v) k sc name o
      → IsNameMeant (both z w) k sc name o
  meant_stays k sc name None (none, h) = (none, free_name_stays sc name h)
  meant_stays k sc name (Some (KnownEntry.Function n)) h = record { no_entry = h.no_entry; function = function_at_stays sc name n h.function }
  meant_stays k sc name (Some KnownEntry.Reserved) h = record {
    no_entry = h.no_entry;
    no_function = no_function_stays sc name h.no_function;
    taken = h.taken;
  }
  meant_stays k sc name (Some (KnownEntry.Macro n)) h = record {
    held = h.held;
    meant = h.meant;
    there = h.there;
    found = h.found;
    is = macro_stays s z v w adds.keeps terms h.held h.meant h.is;
    no_named = h.no_named;
    no_function = no_function_stays sc name h.no_function;
    taken = h.taken;
  }
  meant_stays k sc name (Some (KnownEntry.Named n)) h = record {
    held = h.held;
    meant = h.meant;
    there = h.there;
    found = h.found;
    is = named_stays s z v w adds.keeps terms h.held h.meant h.is;
    no_macro = h.no_macro;
    no_function = no_function_stays sc name h.no_function;
    taken = h.taken;
  }

  pub script_stays : (k : KnownView) (sc : Script) → IsScript (both s v) k sc → IsScript (both z w) k sc
  script_stays k sc h =
      record { sorts = adds.sorts ∙ h.sorts; built_in = h.built_in; names = λ name. meant_stays k sc name (known_entry k name) (h.names name) }

  pub stands_stays : (r : ReadingView) (sc : Script) (p : Place) → ReaderStands (both s v) r sc p → ReaderStands (both z w) r sc p
  stands_stays r sc p h = record {
    script = script_stays r.names.known sc h.script;
    scope = scope_stays s z v w adds.keeps terms r.names.scope p.scope h.scope;
    settings = h.settings;
    low = h.low;
  }
