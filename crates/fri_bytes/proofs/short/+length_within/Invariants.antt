use Rattle.fri_bytes.proofs.short.+length_within.Given as goal

abbrev pub decreases-length_within : goal.decreases-length_within
decreases-length_within l = l.most
