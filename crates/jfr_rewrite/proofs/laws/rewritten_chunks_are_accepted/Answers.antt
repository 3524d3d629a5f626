use Rattle.jfr_rewrite.proofs.laws.rewritten_chunks_are_accepted.Goals as goal
use Rattle.jfr_rewrite.proofs.Accepted.{is_rewritten}

pub returns : goal.returns
returns c = λ w p flags marks m a whole keeps d suits small carries.
    is_rewritten (record { rewrite = w; parts = p; accepted = a; keeps = keeps; flags = flags; marks = marks; classes = m; describes = d; suits = suits }) whole small carries
