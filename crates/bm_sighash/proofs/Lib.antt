mod Doubles
