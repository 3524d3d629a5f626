use Rattle.jfr_verify.proofs.outputs.Outputs.keep.Goals as goal

pub returns-clause-ok : goal.returns-clause-ok
returns-clause-ok c = record {
  chunk = c.in_ok-from_slice.field-0;
  is = c.in_ok-from_slice.ensures.items;
  items = c.in_ok-push.ensures.items;
  parts = c.in_ok-chunk.chunk;
  read = c.in_ok-chunk.ensures.exact;
}
