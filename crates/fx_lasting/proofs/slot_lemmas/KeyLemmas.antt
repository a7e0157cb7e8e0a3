-- Keys and their bits, and the marks that they are made of.
use Rattle.fx_lasting.proofs.{sym, ◌∙◌, arith, KeysAreOfOneFile, KeysComeBack}

pub keys_are_of_one_file : KeysAreOfOneFile
keys_are_of_one_file files key f g once short its its' named named' = once f g its its'
    (grind (arith, f.identity.mark, g.identity.mark, short f its, short g its', named.1 ∙ sym named'.1))

pub keys_come_back : KeysComeBack
keys_come_back key bits is = grind arith
