-- What is known of the terms of a proof does not depend on who may use the pool.
use Rattle.std.proofs.Common.{ℕ, List}
use Rattle.pair_pool.specs.Views.{PassView, PoolView}
use Rattle.sym_table.specs.Table.{Table}
use Rattle.sym_table.proofs.Tables.{keeps_table}
use Rattle.term_model.specs.Terms.{Term}
use Rattle.term_model.proofs.Zips.{zip_weaken}
use Rattle.term_pool.specs.Views.{TermsView, RefersTo}
use Rattle.proof_store.proofs.MeaningLemmas.{items_stay}
use Rattle.rule_model.specs.Proofs.{ProofItems}
use Rattle.command_words.specs.declared.request.Options.{Options}
use Rattle.std.proofs.Common.{Option, None, Some}
use Rattle.problem_text.specs.Scripts.{Script}
use Rattle.problem_text.specs.TypedTerms.{Typed}
use Rattle.term_expansion.specs.SymbolsAndTerms.{both}
use Rattle.term_expansion.specs.Values.{IsValue}
use Rattle.term_expansion.specs.declared.values.Value.{Value}
use Rattle.term_names.specs.Entries.{no_entries}
use Rattle.term_names.specs.Known.{KnownView}
use Rattle.term_names.specs.declared.names.KnownEntry.{KnownEntry}
use Rattle.term_names.specs.Standing.{IsNameMeant}
use Rattle.term_reader.specs.ProblemViews.{ProblemView, IsProblemOf}
use Rattle.judged_texts.specs.declared.texts.Read.{Read}
use Rattle.judged_texts.specs.Texts.{IsRead, IsReadProof}

module _ (s : Table) (pass : PassView) (before after : PoolView) where
  -- the terms, as one pass has the pool and as others may have it too
  abbrev old : TermsView
  old = record { pool = before; pass = pass }

  abbrev new : TermsView
  new = record { pool = after; pass = pass }

  refers : (r : ℕ) (t : Term) → RefersTo s old r t → RefersTo s new r t
  refers r t h = record { tree = h.tree; known = h.known; stands = h.stands }

  shared : (problem : List ℕ) (options : Options) (text : List ℕ) (asserted : List ℕ) (refs : ProofItems ℕ ℕ)
      → IsReadProof problem options text s old asserted refs → IsReadProof problem options text s new asserted refs
  shared problem options text asserted refs h = record {
    script = h.script;
    problem_text = h.problem_text;
    assertions = zip_weaken (RefersTo s old) (RefersTo s new) refers asserted h.script.assertions h.assertions;
    read = record {
      proof = h.read.proof;
      after = h.read.after;
      stands = h.read.stands;
      refer = items_stay s s old new (keeps_table s) refers refs h.read.proof h.read.refer;
    };
  }

  value_shared : (x : Value) (m : Typed) → IsValue (both s old) x m → IsValue (both s new) x m
  value_shared x m h = record { refers = refers x.term m.tree h.refers; sort = h.sort; high = h.high; plain = h.plain }

  name_shared : (k : KnownView) (sc : Script) (name : List ℕ) (e : Option KnownEntry) → IsNameMeant (both s old) k sc name e
      → IsNameMeant (both s new) k sc name e
  name_shared k sc name None h = h
  name_shared k sc name (Some (KnownEntry.Function leaf)) h = h
  name_shared k sc name (Some KnownEntry.Reserved) h = h
  name_shared k sc name (Some (KnownEntry.Macro which)) h = record {
    held = h.held;
    meant = h.meant;
    there = h.there;
    found = h.found;
    is = record {
      parameters = h.is.parameters;
      sorts = h.is.sorts;
      target = h.is.target;
      body = value_shared _ _ h.is.body;
      plain = h.is.plain;
    };
    no_named = h.no_named;
    no_function = h.no_function;
    taken = h.taken;
  }
  name_shared k sc name (Some (KnownEntry.Named which)) h = record {
    held = h.held;
    meant = h.meant;
    there = h.there;
    found = h.found;
    is = record { value = value_shared _ _ h.is.value; low = h.is.low; free = h.is.free };
    no_macro = h.no_macro;
    no_function = h.no_function;
    taken = h.taken;
  }

  problem_shared : (p : ProblemView) (sc : Script) → IsProblemOf s old p sc → IsProblemOf s new p sc
  problem_shared p sc h = record {
    script = record {
      sorts = h.script.sorts;
      built_in = h.script.built_in;
      names = λ name. name_shared (record { base = p.entries; own = no_entries }) sc name _ (h.script.names name);
    };
    assertions = zip_weaken (RefersTo s old) (RefersTo s new) refers p.assertions sc.assertions h.assertions;
  }

  pub read_by_many : (problem : List ℕ) (options : Options) (text : List ℕ) (read : Read)
      → IsRead problem options text s old read → IsRead problem options text s new read
  unfolding shared
  read_by_many problem options text (Read.Whole both) h = (
    record { read = shared problem options text both.problem.assertions both.proof h.0.read; is = problem_shared both.problem h.0.read.script h.0.is },
    h.1,
  )
  read_by_many problem options text (Read.Not judgement) h = h
