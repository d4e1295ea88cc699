use Rattle.std.proofs.Common.{◌∙◌}
use Rattle.std.specs.List.{All}
use Rattle.std.proofs.lemmas.Result.{IfOk-weaker}
use Rattle.pair_pool.specs.Views.{IsKnown}
use Rattle.term_pool.specs.Views.{KnowsAll, ReferToAll}
use Rattle.generated_texts.specs.Standing.{standing_in}
use Rattle.generated_texts.proofs.ListLemmas.{all_known, in_refer, knows_trees, stand_trees, trees_of}
use Rattle.generated_texts.proofs.summarizing.count_cells.Goals as goal

pub cells_of-requires : goal.cells_of-requires
cells_of-requires c =
    let s = c.args.symbols.now in
    let v = c.args.terms.now in
    let both = c.args.both.now in
    let is = c.requires.read.read in
    let proof = is.read.proof in
    let stand = is.read.refer in
    let refs = both.proof in
    let refer = in_refer s v refs proof (λ i. c.terms_correspond.ensures.clause s v refs proof i stand)
    (λ k. c.terms_correspond.ensures.bindings s v refs proof k stand) (λ i. c.commands_correspond.ensures.scope s v refs proof i stand)
    (c.commands_correspond.ensures.commands s v refs proof stand) both.problem.assertions is.script.assertions is.assertions in
    let known : All (IsKnown v.pass) (standing_in both.problem.assertions refs) = all_known s v _ _ refer in
    rw (c.deref.ensures.value ∙ c.in_ok-list.ensures) known

pub returns : goal.returns
returns c = λ problem options text.
    let s = c.args.symbols.now in
    let v = c.args.terms.now in
    let both = c.args.both.now in
    let refs = both.proof in
    IfOk-weaker c.cells_of.result _ _ (λ n counts read.
    let is = read.read in
    let proof = is.read.proof in
    let stand = is.read.refer in
    let refer : ReferToAll s v (standing_in both.problem.assertions refs) (standing_in is.script.assertions proof) =
    in_refer s v refs proof (λ i. c.terms_correspond.ensures.clause s v refs proof i stand)
    (λ k. c.terms_correspond.ensures.bindings s v refs proof k stand) (λ i. c.commands_correspond.ensures.scope s v refs proof i stand)
    (c.commands_correspond.ensures.commands s v refs proof stand) both.problem.assertions is.script.assertions is.assertions in
    let known : KnowsAll v.pass (standing_in both.problem.assertions refs) (trees_of s v _ _ refer) = knows_trees s v _ _ refer in
    record {
      table = s;
      is_table = c.leaves_differ.ensures.table;
      trees = trees_of s v _ _ refer;
      stand = stand_trees s v _ _ refer;
      counts = counts (trees_of s v _ _ refer) (rw (c.deref.ensures.value ∙ c.in_ok-list.ensures) known);
    }) c.cells_of.ensures.count
