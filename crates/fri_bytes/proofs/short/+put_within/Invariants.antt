use Rattle.fri_bytes.proofs.short.+put_within.Given as goal

abbrev pub decreases-put_within : goal.decreases-put_within
decreases-put_within l = l.most
