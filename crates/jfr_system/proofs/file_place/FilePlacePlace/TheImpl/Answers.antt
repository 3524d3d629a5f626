use Rattle.std.proofs.Common.{refl}
use Rattle.jfr_system.proofs.Untold.{untold_leaves, untold_prefix, nothing_on_ok, nothing_if_ok}
use Rattle.jfr_system.proofs.file_place.FilePlacePlace.TheImpl.Goals as goal

pub open_input-tells : goal.open_input-tells
open_input-tells g c = record { contents = untold_leaves c.result _ _; there = nothing_on_ok c.result; reads = c.ensures.reads; writes = c.ensures.writes; same = refl; steady = λ _ _. tt }

pub read-tells : goal.read-tells
read-tells g c = record {
  bound = c.ensures.bound;
  contents = untold_leaves c.result _ _;
  bytes = nothing_if_ok c.result;
  end = nothing_if_ok c.result;
  «open» = nothing_on_ok c.result;
  reads =
      c.ensures.reads;
  writes = c.ensures.writes;
  same = refl;
  steady = λ _ _. tt;
}

pub create_output-tells : goal.create_output-tells
create_output-tells g c = record { contents = untold_leaves c.result _ _; was_new = nothing_on_ok c.result; reads = c.ensures.reads; writes = c.ensures.writes; same = refl; steady = λ _ _. tt }

pub append-tells : goal.append-tells
append-tells g c = record { contents = untold_prefix c.result _ _; «open» = nothing_on_ok c.result; reads = c.ensures.reads; writes = c.ensures.writes; same = refl; steady = λ _ _. tt }

pub append_pieces-tells : goal.append_pieces-tells
append_pieces-tells g c = record { contents = untold_prefix c.result _ _; «open» = nothing_on_ok c.result; reads = c.ensures.reads; writes = c.ensures.writes; same = refl; steady = λ _ _. tt }

pub finish_output-tells : goal.finish_output-tells
finish_output-tells g c = record { contents = untold_leaves c.result _ _; «open» = nothing_on_ok c.result; reads = c.ensures.reads; writes = c.ensures.writes; same = refl; steady = λ _ _. tt }

pub list-tells : goal.list-tells
list-tells g c = record { contents = untold_leaves c.result _ _; names = nothing_if_ok c.result; reads = c.ensures.reads; writes = c.ensures.writes; same = refl; steady = λ no _. cc }
