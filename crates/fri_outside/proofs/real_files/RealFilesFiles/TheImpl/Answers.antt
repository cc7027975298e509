use Rattle.std.proofs.Common.{refl, inl}
use Rattle.fri_outside.proofs.UntoldFiles.{at_ok, at_err}
use Rattle.fri_outside.proofs.real_files.RealFilesFiles.TheImpl.Goals as goal

pub read-tells : goal.read-tells
read-tells g c = record {
  within = c.ensures.within;
  answer = λ folder told. cc;
  same = refl;
  counted = c.ensures.counted;
}

pub create-tells : goal.create-tells
create-tells g c = record {
  ok = at_ok c.result refl;
  err = at_err c.result (inl refl);
  no_memory = λ _. refl;
  counted = c.ensures.counted;
}

pub replace-tells : goal.replace-tells
replace-tells g c = record {
  ok = at_ok c.result refl;
  err = at_err c.result refl;
  counted = c.ensures.counted;
}

pub append-tells : goal.append-tells
append-tells g c = record {
  ok = at_ok c.result refl;
  err = at_err c.result (inl refl);
  no_memory = λ _. refl;
  counted = c.ensures.counted;
}
