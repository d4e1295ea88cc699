use Rattle.sexpr.specs.Printed.{printed_lines}
use Rattle.printed_proofs.specs.PrintedProof.{proof_items}
use Rattle.reread_laws.proofs.NoArguments.{text_gives_none}
use Rattle.reread_laws.proofs.OtherMode.{text_in_mode}
use Rattle.reread_laws.proofs.laws.proofs_without_pivots_are_read_in_both_modes.Goals as goal

pub returns : goal.returns
returns c = λ plan s proof settings is_strict before read after sound none formed spelled stands.
    text_in_mode (printed_lines (proof_items plan s proof)) settings is_strict before read after
    (text_gives_none c.items_are_unique.ensures.text c.printed_items_are_read_back.ensures.items c.parts_are_read_back.ensures.spelled_coefficients plan s
    proof sound none formed spelled)
    stands
