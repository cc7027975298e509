use Rattle.fri_outside.proofs.SeveralFiles.{more_made, piece_grows, grown_apart, apart_stand, fronts_left}
use Rattle.fri_outside.proofs.StoredFiles.{get_set, with_piece-with_file, within_held}
use Rattle.fri_outside.proofs.laws.keeps_files.Goals as goal

pub returns : goal.returns
returns c = record {
  made = get_set;
  behind = with_piece-with_file;
  within = within_held;
  more = more_made;
  grows = piece_grows;
  apart = grown_apart;
  stands = apart_stand;
  left = fronts_left;
}
