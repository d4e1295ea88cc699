use Rattle.step_check.proofs.ChunkLemmas.{one_piece, statuses_of_chunks, places_of_chunks, lacks_of_chunks}
use Rattle.step_check.proofs.chunks.chunks_make_a_check.Goals as goal

pub returns-clause-statuses : goal.returns-clause-statuses
returns-clause-statuses c flags s old new rs refs pieces table known keeps done =
    statuses_of_chunks c.proofs_stand_for_one.ensures.one c.proofs_stay.ensures s old new refs table known keeps (c.commands_correspond.ensures.commands s old refs) flags rs pieces done

pub returns-clause-placed : goal.returns-clause-placed
returns-clause-placed c s old new refs table known keeps h = places_of_chunks c.proofs_stand_for_one.ensures.one c.proofs_stay.ensures s old new refs table known keeps h

pub returns-clause-full : goal.returns-clause-full
returns-clause-full c s old new refs table known keeps h = lacks_of_chunks c.proofs_stand_for_one.ensures.one c.proofs_stay.ensures s old new refs table known keeps h

pub returns-clause-one_piece : goal.returns-clause-one_piece
returns-clause-one_piece c flags s v rs refs k piece other table known h g =
    one_piece s v table known c.proofs_stand_for_one.ensures.one c.statuses_are_unique.ensures.status flags rs refs k piece other h g
