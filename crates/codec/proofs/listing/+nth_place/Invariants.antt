use Rattle.codec.proofs.listing.+nth_place.Given as goal

abbrev pub decreases-nth_place : goal.decreases-nth_place
decreases-nth_place l = l.left
