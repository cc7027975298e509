use Rattle.fri_bytes.proofs.short.+short_within.Given as goal

abbrev pub decreases-short_within : goal.decreases-short_within
decreases-short_within l = l.most
