mod Symbols
